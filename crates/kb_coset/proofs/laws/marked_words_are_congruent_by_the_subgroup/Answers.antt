use Rattle.kb_coset.proofs.MarkedPresentation.{marks_cosets}
use Rattle.kb_coset.proofs.laws.marked_words_are_congruent_by_the_subgroup.Goals as goal

pub returns : goal.returns
returns c n generators parts u v inverse is each over u_over inverts =
    let marks = marks_cosets n generators parts is over in marks.subgroup each u v inverse u_over inverts
