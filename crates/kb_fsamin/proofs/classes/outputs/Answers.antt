use Rattle.std.proofs.Common.{◌≡◌, ◌+◌, ◌++◌, ◌∷◌, [], ℕ, suc, Bool, false, nat_eq, List, get_or, if◌then◌else◌, sym, ap, ◌∙◌, subst}
use Rattle.std.specs.List.{list_any, position_or_len}
use Rattle.kb_fsamin.specs.Firsts.{output_at}
use Rattle.kb_fsamin.specs.Splitting.{AreNumbered}
use Rattle.kb_fsamin.proofs.Numberings.{numbered_more}
use Rattle.kb_fsamin.proofs.classes.outputs.Goals as goal

pub loop-place-preserved : goal.loop-place-preserved
loop-place-preserved c =
    let table = c.args.table.now in
    let labels = c.args.labels.now in
    let place = c.loop-place.place in
    let seen = c.loop-place.seen.keys in
    let seen' = c.insert_full.new.self.keys in
    let thing = output_at table labels in
    let output : c.output_of-output.result ≡ thing place =
    c.output_of-output.ensures
    ∙ ap (λ (l : ℕ). if get_or c.accepting-accepts-items.result.now place false then suc l else 0) c.label.ensures
    ∙ ap (λ (a : List Bool). if get_or a place false then suc (get_or labels place 0) else 0) c.accepting-accepts-items.ensures.accepting in
    let K : ℕ → Type 0 = λ x. seen' ≡ (if list_any (nat_eq x) seen then seen else seen ++ x ∷ []) in
    let N : ℕ → Type 0 = λ x. c.in_ok-number.number ≡ position_or_len (nat_eq x) seen in
    let P : List ℕ → Type 0 = λ l. AreNumbered thing (place + 1) seen' l in
    subst P (sym c.in_ok-push.ensures.items)
    (numbered_more thing place seen seen' c.loop-place.numbers.items c.in_ok-number.number (subst K output c.in_ok-number.ensures.keys)
    (subst N output c.in_ok-number.ensures.index) c.loop-place.invariant)
