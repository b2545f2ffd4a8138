use Rattle.std.proofs.Common.{◌≡◌, ◌++◌, ◌∙◌, Bool, nat_le, length, sym, ap, rules, tests}
use Rattle.std.specs.List.{list_all}
use Rattle.std.proofs.lemmas.Bool.{and_left, and_right, lt-leb}
use Rattle.std.proofs.lemmas.Iterator.{YieldsList-from_slice}
use Rattle.std.proofs.lemmas.Iterator.Search.{all_from_yields_List}
use Rattle.kb_layout.proofs.PrintedPieces.{ok_then}
use Rattle.kb_layout.proofs.WrittenTexts.{to_come, text_more, all_texts}
use Rattle.kb_fsaprint.proofs.Writings.{range_texts, accepting_range, accepting_list}
use Rattle.kb_fsaprint.proofs.writer.write_accepting.Goals as goal
use Rattle.kb_fsaprint.proofs.writer.write_accepting.Goals.{else-all-via-then-all+else-accepting-ge2, else-all-via-else-all}

pub returns : goal.returns
returns c =
    let accepting = c.args.accepting.now in
    let all = list_all (λ (accepts : Bool). accepts) accepting in
    let some = nat_le 2 (length accepting) in
    let answer : c.all.result ≡ all =
    all_from_yields_List (λ (accepts : Bool). accepts) _ _ c.all.result c.all.ensures.ran (YieldsList-from_slice accepting cc) (λ x b q k. search (rules, tests)) in
    ok_then c.write_accepting_list.result c.write_accepting_list.ensures (λ e.
    e ∙ ap (λ t. c.args.out.now.items ++ t) (accepting_list accepting (elim c.else-all.branch [
      | else-all-via-then-all+else-accepting-ge2 w ↦ and_right all some (lt-leb 2 (length accepting) w.if-accepting-ge2.false)
      | else-all-via-else-all w ↦ and_left all some (sym answer ∙ w.if-all.false)
    ])))

pub returns-then-accepting-ge2 : goal.returns-then-accepting-ge2
returns-then-accepting-ge2 c =
    let accepting = c.args.accepting.now in
    let answer : c.all.result ≡ list_all (λ accepts. accepts) accepting =
    all_from_yields_List (λ (accepts : Bool). accepts) _ _ c.all.result c.all.ensures.ran (YieldsList-from_slice accepting cc) (λ x b q k. search (rules, tests)) in
    all_texts (text_more (text_more (text_more
    (to_come c.args.out.now.items (range_texts (length accepting)))
    c.in_ok-extend_from_slice.ensures.items) c.in_ok-write_number.ensures) c.in_ok-push.ensures.items)
    ∙ ap (λ t. c.args.out.now.items ++ t) (accepting_range accepting (sym answer ∙ c.if-all.true) c.if-accepting-ge2.true)
