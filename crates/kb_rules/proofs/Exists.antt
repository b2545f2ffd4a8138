-- A word is irreducible or has a first rewrite; under a reduction order first rewrites come to an end.
use Rattle.std.proofs.Common.{◌≡◌, ℕ, List, [], ◌∷◌, ◌++◌, sym, ◌∙◌, subst, inl, inr, append_assoc}
use Rattle.std.proofs.lemmas.List.{append-nil}
use Rattle.kb_word.specs.Words.{Pair, OneOf}
use Rattle.kb_word.specs.Order.{Accessible, IsReductionOrder}
use Rattle.kb_word.specs.Order.Accessible.{accessible}
use Rattle.kb_word.specs.Rewriting.{AreDecreasing, IsIrreducible, FirstRewrite, NormalForm}
use Rattle.kb_rules.proofs.Lists.{empty_middle}
use Rattle.kb_rules.proofs.Endings.{cases_ending, irreducible_more, first_rewrite_at}
use Rattle.kb_rules.proofs.Unique.{irreducible_is_normal, normal_form_more}

no_descent : {below : List ℕ → List ℕ → Type 0} → IsReductionOrder below → (v : List ℕ) → below v []
    → (u : List ℕ) → Accessible below u → ⊥
no_descent {below = below} order v least u (accessible lower) =
    let P : List ℕ → Type 0 = λ w. below (u ++ v) w in
    let Q : List ℕ → Type 0 = λ w. below w (u ++ [] ++ []) in
    let fall : below (u ++ v) u =
    subst P (append-nil (u ++ []) ∙ append-nil u) (subst Q (append-nil (u ++ v)) (order.kept u [] v [] least)) in
    no_descent order v least (u ++ v) (lower (u ++ v) fall)

-- nothing is below the empty word
pub nothing_below_empty : {below : List ℕ → List ℕ → Type 0} → IsReductionOrder below → (v : List ℕ) → ¬ below v []
nothing_below_empty order v least = no_descent order v least [] (order.well_founded [])

-- a first rewrite of the word, or none
pub data Reading (rules : List Pair) (w : List ℕ) : Type 0 where
  rewritten : (v : List ℕ) → FirstRewrite rules w v → Reading rules w
  read : IsIrreducible (OneOf rules) w → Reading rules w

-- the letters that are left are read one by one, what is read being irreducible
reading_from : (rules : List Pair) (front rest : List ℕ) → IsIrreducible (OneOf rules) front
    → Reading rules (front ++ rest)
reading_from rules front [] irreducible =
    let P : List ℕ → Type 0 = λ w. IsIrreducible (OneOf rules) w in
    read (subst P (sym (append-nil front)) irreducible)
reading_from rules front (x ∷ rest) irreducible =
    let next : IsIrreducible (OneOf rules) (front ++ x ∷ []) → Reading rules ((front ++ x ∷ []) ++ rest) =
    reading_from rules (front ++ x ∷ []) rest in
    elim (cases_ending rules (front ++ x ∷ [])) [
      | inl f ↦ rewritten (f.2.ends.0 ++ f.1.1 ++ rest) (first_rewrite_at rules front x rest f.0 f.1 irreducible f.2)
      | inr none ↦
          let P : List ℕ → Type 0 = Reading rules in
          subst P (append_assoc front (x ∷ []) rest) (next (irreducible_more rules front x irreducible none))
    ]

-- the empty word is irreducible, where no left side is empty
pub empty_irreducible : {below : List ℕ → List ℕ → Type 0} → IsReductionOrder below → (rules : List Pair)
    → AreDecreasing below rules
    → IsIrreducible (OneOf rules) []
empty_irreducible {below = below} order rules falling before pair after one whole =
    let left : pair.0 ≡ [] = empty_middle before pair.0 after whole in
    let P : List ℕ → Type 0 = λ w. below pair.1 w in
    nothing_below_empty order pair.1 (subst P left (falling pair one))

pub cases_reducible : {below : List ℕ → List ℕ → Type 0} → IsReductionOrder below → (rules : List Pair)
    → AreDecreasing below rules
    → (w : List ℕ) → Reading rules w
cases_reducible order rules falling w = reading_from rules [] w (empty_irreducible order rules falling)

-- a first rewrite gives a word that is below
pub first_rewrite_below : {below : List ℕ → List ℕ → Type 0} → IsReductionOrder below → (rules : List Pair)
    → AreDecreasing below rules
    → (u v : List ℕ) → FirstRewrite rules u v → below v u
first_rewrite_below {below = below} order rules falling u v f =
    let P : List ℕ → Type 0 = λ w. below w u in
    let Q : List ℕ → Type 0 = λ w. below (f.before ++ f.rule.1 ++ f.after) w in
    subst P (sym f.to) (subst Q (sym f.from) (order.kept f.before f.after f.rule.1 f.rule.0 (falling f.rule (f.index, f.is_rule))))

-- some word is a normal form of w
abbrev pub HasNormalForm : List Pair → List ℕ → Type 0
HasNormalForm rules w = (m : List ℕ) × NormalForm rules w m

exists_from : {below : List ℕ → List ℕ → Type 0} → IsReductionOrder below → (rules : List Pair)
    → AreDecreasing below rules
    → (w : List ℕ) → Accessible below w → HasNormalForm rules w
exists_from {below = below} order rules falling w (accessible lower) =
    let next : (v : List ℕ) → below v w → HasNormalForm rules v = λ v fall. exists_from order rules falling v (lower v fall) in
    elim (cases_reducible order rules falling w) [
      | rewritten v f ↦
          let later = next v (first_rewrite_below order rules falling w v f) in (later.0, normal_form_more f later.1)
      | read irreducible ↦ (w, irreducible_is_normal rules w irreducible)
    ]

-- every word has a normal form
pub normal_form_exists : {below : List ℕ → List ℕ → Type 0} → IsReductionOrder below → (rules : List Pair)
    → AreDecreasing below rules
    → (w : List ℕ) → HasNormalForm rules w
normal_form_exists order rules falling w = exists_from order rules falling w (order.well_founded w)
