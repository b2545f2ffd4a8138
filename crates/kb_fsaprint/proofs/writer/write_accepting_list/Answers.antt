use Rattle.std.proofs.Common.{◌++◌, ◌+◌, ◌∙◌, ℕ, suc, List, [], drop, sym, ap, subst, arith}
use Rattle.std.specs.Prelude.{codes}
use Rattle.std.proofs.lemmas.List.{drop_all}
use Rattle.kb_layout.specs.Printing.{pieces, IsPrintedUpTo}
use Rattle.kb_fsaprint.specs.Printed.{accepting_from}
use Rattle.kb_fsaprint.specs.Writing.{number_text}
use Rattle.kb_fsaprint.proofs.Writings.{number_pieces, pieces_done, accepting_next, accepting_passed}
use Rattle.kb_fsaprint.proofs.writer.write_accepting_list.Goals as goal
use Rattle.kb_fsaprint.proofs.writer.write_accepting_list.Goals.{then-accepts+in_ok-extend_from_slice+in_ok-write_number, else-accepts}

pub loop-accepts-preserved : goal.loop-accepts-preserved
loop-accepts-preserved c =
    let accepting = c.args.accepting.now in
    let place = c.loop-accepts.accepts-index in
    let whole = codes "[" ++ (pieces number_text [] (codes ",") (accepting_from 1 accepting) ++ codes "]") in
    let P = λ (before now : List ℕ). IsPrintedUpTo number_text (codes ",") (codes "]") (accepting_from (suc (place + 1)) (drop (place + 1) accepting)) whole
    c.args.out.now.items 0 before now in
    record {
      printed = elim c.if-accepts.branch [
        | then-accepts+in_ok-extend_from_slice+in_ok-write_number w ↦
            let next = accepting_next accepting place w.extend_from_slice.new.self.items w.write_number.new.out.items w.if-accepts.true c.loop-accepts-test.true
            c.loop-accepts.invariant.printed w.in_ok-extend_from_slice.ensures.items
            (w.in_ok-write_number.ensures ∙ ap (λ s. w.extend_from_slice.new.self.items ++ number_text (s + 1)) c.loop-accepts.invariant.state) in
            subst (P c.if-accepts.before.now) (sym (ap (λ v. v.items) w.out-is))
            (subst (λ (b : List ℕ). P b w.write_number.new.out.items) (sym (ap (λ b. b.now) w.before-is)) next)
        | else-accepts w ↦
            let next = accepting_passed accepting place w.if-accepts.false c.loop-accepts-test.true c.loop-accepts.invariant.printed in
            subst (P c.if-accepts.before.now) (sym (ap (λ v. v.items) w.out-is))
            (subst (λ (b : List ℕ). P b c.loop-accepts.out.items) (sym (ap (λ b. b.now) w.before-is)) next)
      ];
      state = ap (λ s. s + 1) c.loop-accepts.invariant.state;
    }

pub returns : goal.returns
returns c =
    let accepting = c.args.accepting.now in
    let place = c.loop-accepts.accepts-index in
    pieces_done c.push-2.new.self.items c.loop-accepts.invariant.printed (ap (accepting_from (suc place)) (drop_all place accepting (omega arith)))
    c.in_ok-push-2.ensures.items
    ∙ ap (λ t. c.args.out.now.items ++ t) (number_pieces (accepting_from 1 accepting))
