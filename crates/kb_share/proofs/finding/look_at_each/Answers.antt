use Rattle.std.proofs.Common.{◌≡◌, ◌≢◌, ℕ, ◌+◌, ◌<◌, ◌≤◌, List, [], ◌∷◌, ◌++◌, Vec, Global, length, get_or, sym, ◌∙◌, ap, subst, inl, inr, arith}
use Rattle.std.specs.List.{Contains}
use Rattle.std.proofs.lemmas.Bool.{cases_lt}
use Rattle.std.proofs.lemmas.List.{get_or_default}
use Rattle.std.proofs.lemmas.List.Elements.{Contains-append_left, Contains-push}
use Rattle.kb_share.proofs.finding.look_at_each.Goals as goal
use Rattle.kb_share.proofs.finding.look_at_each.Goals.{then-is_concerned+in_ok-push, else-is_concerned}
use Rattle.kb_share.specs.Finding.{HasFactorAt}

-- one of the likely lines more
look_more : (likely : List ℕ) (index k : ℕ) (found more : List ℕ) (P : ℕ → Type 0)
    → ((m : ℕ) → m < index → get_or likely m 0 ≢ k → P (get_or likely m 0) → Contains found (get_or likely m 0))
    → ((n : ℕ) → Contains found n → Contains more n)
    → (get_or likely index 0 ≢ k → P (get_or likely index 0) → Contains more (get_or likely index 0))
    → (m : ℕ) → m < index + 1 → get_or likely m 0 ≢ k → P (get_or likely m 0) → Contains more (get_or likely m 0)
look_more likely index k found more P before kept own m low another has = elim (cases_lt m index) [
  | inl early ↦ kept (get_or likely m 0) (before m early another has)
  | inr late ↦
      let same : index ≡ m = omega (arith, low, late) in
      let Q : ℕ → Type 0 = λ i. get_or likely i 0 ≢ k → P (get_or likely i 0) → Contains more (get_or likely i 0) in
      subst Q same own another has
]

-- all of them
looked : (likely : List ℕ) (index k : ℕ) (found : List ℕ) (P : ℕ → Type 0) → length likely ≤ index
    → ((m : ℕ) → m < index → get_or likely m 0 ≢ k → P (get_or likely m 0) → Contains found (get_or likely m 0))
    → (number : ℕ) → Contains likely number → number ≢ k → P number → Contains found number
looked likely index k found P end all number is =
    let same : get_or likely is.0 0 ≡ number = get_or_default likely is.0 0 number is.1 ∙ is.2 in
    let Q : ℕ → Type 0 = λ n. n ≢ k → P n → Contains found n in
    let within = is.1 in
    subst Q same (all is.0 (omega (arith, within, end)))

more_items : (found more : Vec ℕ Global) (items : List ℕ) (x : ℕ) → found ≡ more → more.items ≡ items ++ x ∷ []
    → found.items ≡ items ++ x ∷ []
more_items found more items x same is = ap (λ (v : Vec ℕ Global). v.items) same ∙ is

pub loop-other-preserved : goal.loop-other-preserved
loop-other-preserved c =
    let likely : List ℕ = c.args.likely.now in
    let index : ℕ = c.loop-other.other-index in
    let x : ℕ = get_or likely index 0 in
    let found : List ℕ = c.loop-other.found.items in
    let more : List ℕ = c.if-is_concerned.found.items in
    let P : ℕ → Type 0 = HasFactorAt c.args.side c.args.lines.now c.args.live.now c.args.factor.now in
    elim c.if-is_concerned.branch [
      | then-is_concerned+in_ok-push w ↦
          let is : more ≡ found ++ x ∷ [] =
          more_items c.if-is_concerned.found w.push.new.self found x w.found-is w.in_ok-push.ensures.items in
          let Q : List ℕ → ℕ → Type 0 = λ xs n. Contains xs n in
          look_more likely index c.args.k found more P c.loop-other.invariant
          (λ n has. subst (λ (xs : List ℕ). Q xs n) (sym is) (Contains-append_left found (x ∷ []) n has))
          (λ another has. subst (λ (xs : List ℕ). Q xs x) (sym is) (Contains-push found x))
      | else-is_concerned w ↦
          let is : found ≡ more = ap (λ (v : Vec ℕ Global). v.items) (sym w.found-is) in
          let no = w.if-is_concerned.false in
          look_more likely index c.args.k found more P c.loop-other.invariant
          (λ n has. subst (λ (xs : List ℕ). Contains xs n) is has)
          (λ another has. let yes = c.is_concerned.ensures another has in absurd (cc (no, yes)))
    ]

pub returns : goal.returns
returns c =
    looked c.args.likely.now c.loop-other.other-index c.args.k c.loop-other.found.items
    (HasFactorAt c.args.side c.args.lines.now c.args.live.now c.args.factor.now) c.loop-other-test.false c.loop-other.invariant
