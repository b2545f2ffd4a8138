use Rattle.std.proofs.Common.{◌≡◌, ◌≤◌, ℕ, ◌+◌, suc, List, [], ◌∷◌, ◌++◌, Vec, Global, fold, length, take, drop, slice_index_or, sym, ◌∙◌, ap, subst, arith}
use Rattle.std.proofs.Math.Seq.{drop-cons}
use Rattle.std.proofs.lemmas.List.{length-take-le}
use Rattle.std.proofs.lemmas.Option.{slice_get_within}
use Rattle.kb_word.specs.Words.{Pair}
use Rattle.kb_publish.specs.declared.change.Change.{Change}
use Rattle.kb_publish.specs.declared.change.Change.TheVariants.{Gone}
use Rattle.kb_publish.specs.Editions.{changed, lines_by}
use Rattle.kb_publish.proofs.Changing.{kept_at, gone_more}
use Rattle.kb_publish.proofs.changes.gone_of.Goals as goal
use Rattle.kb_publish.proofs.changes.gone_of.Goals.{then-stands_at, else-stands_at+in_ok-push}

pub loop-number-preserved : goal.loop-number-preserved
loop-number-preserved g c =
    let live = c.args.live.now in
    let numbers = c.args.numbers.now in
    let at = c.loop-number.number-index in
    let kept = c.loop-number.kept in
    let number = slice_index_or numbers at 0 in
    let rest = drop (at + 1) numbers in
    let before = c.loop-number.invariant in
    let next : suc at ≡ at + 1 = omega arith in
    let split : drop at numbers ≡ number ∷ rest =
    drop-cons numbers at 0 c.loop-number-test.true ∙ ap (λ (n : ℕ). number ∷ drop n numbers) next in
    let Goes : ℕ → List (Change g.row.N.Denot) → Type 0 = λ k changes. (k ≤ length live)
    × ((version : ℕ) (rule : ℕ → Pair) → fold changed (lines_by rule version numbers) changes
    ≡ lines_by rule version (take k live ++ rest)) in
    elim c.if-stands_at.branch [
      | then-stands_at w ↦
          let stands = c.stands_at.ensures w.if-stands_at.true in
          let within = slice_get_within live kept number stands in
          let goes : Goes (kept + 1) c.loop-number.changes.items = (
            omega (arith, within),
            λ version rule. before.1 version rule
                ∙ ap (λ (l : List ℕ). lines_by rule version (take kept live ++ l)) split
                ∙ ap (lines_by rule version) (kept_at live kept number rest stands),
          ) in
          let same = ap (λ (v : Vec (Change g.row.N.Denot) Global). v.items) w.changes-is in
          let P : ℕ → Type 0 = λ k. Goes k c.if-stands_at.changes.items in
          subst P (sym w.kept-is) (subst (Goes (kept + 1)) (sym same) goes)
      | else-stands_at+in_ok-push w ↦
          let goes : Goes kept (c.loop-number.changes.items ++ Gone kept ∷ []) = (
            before.0,
            λ version rule. gone_more (lines_by rule version numbers) c.loop-number.changes.items rule version (take kept live) number rest
                kept (length-take-le kept live before.0)
                (before.1 version rule ∙ ap (λ (l : List ℕ). lines_by rule version (take kept live ++ l)) split),
          ) in
          let same = ap (λ (v : Vec (Change g.row.N.Denot) Global). v.items) w.changes-is ∙ w.in_ok-push.ensures.items in
          let P : ℕ → Type 0 = λ k. Goes k c.if-stands_at.changes.items in
          subst P (sym w.kept-is) (subst (Goes kept) (sym same) goes)
    ]
