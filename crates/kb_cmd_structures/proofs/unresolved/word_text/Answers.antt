use Rattle.std.proofs.Common.{rules, ◌∙◌, [], ap, refl, sym}
use Rattle.std.specs.Prelude.{string_bytes}
use Rattle.std.proofs.lemmas.List.{take_all}
use Rattle.kb_word.specs.Printed.{text_of_word}
use Rattle.kb_word.proofs.PrintLemmas.{begun, begun_more}
use Rattle.kb_cmd_structures.proofs.unresolved.word_text.Goals as goal

pub loop-letter-init : goal.loop-letter-init
loop-letter-init c = record {
  first = c.in-Some.first.now;
  whole = search rules;
  so_far = search rules;
}

pub loop-letter-preserved : goal.loop-letter-preserved
loop-letter-preserved c =
    let is = c.loop-letter.invariant in record {
      first = is.first;
      whole = is.whole;
      so_far = begun_more c.args.names.now is.first c.in-Some.rest.now c.loop-letter.letter-index c.letter-item.result (string_bytes c.loop-letter.text)
          _ _ [] c.loop-letter-test.true c.letter-item.is is.so_far refl c.in_ok-push_starred.ensures;
    }

pub returns : goal.returns
returns c =
    let is = c.loop-letter.invariant in
    let all = take_all c.loop-letter.letter-index c.in-Some.rest.now c.loop-letter-test.false in
    c.from_string.ensures ∙ (is.so_far ∙ (ap (begun c.args.names.now is.first) all ∙ ap (text_of_word c.args.names.now) (sym is.whole)))
