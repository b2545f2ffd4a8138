use Rattle.std.proofs.Common.{◌≡◌, ◌+◌, ℕ, suc, false, List, get_or, sym, ap, ◌∙◌, subst, arith}
use Rattle.kb_fsamin.specs.Firsts.{AreByNumber, first_class}
use Rattle.kb_fsamin.proofs.FirstClasses.{by_more}
use Rattle.kb_fsamin.proofs.classes.first_classes.Goals as goal

pub loop-place-preserved : goal.loop-place-preserved
loop-place-preserved c =
    let marks = c.args.marks.now in
    let numbers = c.args.numbers.now in
    let place = c.loop-place.place in
    let one : place + 1 ≡ suc place = omega arith in
    let class : c.first_class.result ≡ first_class (get_or marks (suc place) false) (get_or numbers place 0) =
    c.first_class.ensures ∙ ap (λ k. first_class (get_or marks k false) (get_or numbers place 0)) one in
    let P : List ℕ → Type 0 = λ l. AreByNumber marks numbers (place + 1 + 1) l in
    subst P (sym {A = List ℕ} c.in_ok-push-2.ensures.items)
    (by_more marks numbers place c.first_class.result c.loop-place.classes.items class c.loop-place.invariant)
