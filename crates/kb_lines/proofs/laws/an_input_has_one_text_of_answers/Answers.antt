use Rattle.kb_lines.proofs.UniqueLemmas.{one-sent}
use Rattle.kb_lines.proofs.laws.an_input_has_one_text_of_answers.Goals as goal

pub returns : goal.returns
returns g c = λ one after other later functional first second same.
    one-sent one after other later functional first second same
