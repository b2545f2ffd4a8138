-- A text's fields say one presentation.
use Rattle.std.proofs.Common.{◌≡◌, ◌≢◌, ℕ, ◌<◌, ℤ, pos, List, [], ◌∷◌, map, length, slice_get, get_or, Option, None, Some, Result, Ok, refl, sym, ap, subst, ◌∙◌, arith}
use Rattle.std.proofs.lemmas.List.{same_lists}
use Rattle.std.proofs.lemmas.Option.{get_or_from_slice_get}
use Rattle.kb_word.specs.Words.{Pair}
use Rattle.kb_record.specs.Tree.{Factors, Value, string_value, Fields}
use Rattle.kb_record.specs.Meaning.{WordFault}
use Rattle.kb_presfile.specs.Kinds.{equation_value, list_of_equations}
use Rattle.kb_word.specs.Presentations.{PresentationParts}
use Rattle.kb_presfile.specs.Holds.{place_at, IsShortlex, IsOrdering, HasWeights, HasOrder, HoldsPlaces, StandFor, HasInverses, AreMeanings, HasEquations, HoldsPresentation}
use Rattle.kb_presfile.specs.declared.order.Ordering.TheVariants as orderings
use Rattle.kb_word.specs.declared.word_order.WordOrder.{WordOrder}
use Rattle.kb_word.specs.declared.word_order.WordOrder.TheVariants as orders
use Rattle.kb_fields.proofs.NumberLemmas.{one_list_of_numbers}
use Rattle.std.specs.Prelude.{codes}
use Rattle.kb_fields.proofs.ListingLemmas.{places_of-injective, list_same, some_value}
use Rattle.kb_presfile.proofs.PlaceLemmas.{places_injective, one_list_of_names}
use Rattle.kb_presfile.proofs.EquationLemmas.{list_of_equations-places_of}

-- the text has one list of places for inverses
pub one_list_of_places : (value : Option Value) (ps qs : List (Option (List ℕ))) → HoldsPlaces value ps → HoldsPlaces value qs → ps ≡ qs
one_list_of_places None ps qs a b = a ∙ sym b
one_list_of_places (Some v) ps qs a b = places_injective ps qs (sym a ∙ b)

letter_same : {x y : ℕ} → Some x ≡ Some y → x ≡ y
letter_same e = cc

-- the letters that names at places stand for
pub one_list_of_letters : (names : List (List ℕ)) (places : List (Option (List ℕ))) (xs ys : List (Option ℕ)) → StandFor names places xs → StandFor names places ys → xs ≡ ys
one_list_of_letters names places xs ys a b = same_lists xs ys (a.one_each ∙ sym b.one_each) (λ k d h.
    at_place k d (omega (arith, a.one_each)) (place_at places k) refl)
  where
    at_letter : (k : ℕ) (d : Option ℕ) (x y : ℕ) → slice_get xs k ≡ Some (Some x) → slice_get ys k ≡ Some (Some y) → x ≡ y → get_or xs k d ≡ get_or ys k d
    at_letter k d x y at_x at_y same = get_or_from_slice_get xs k (Some x) d at_x ∙ (ap Some same ∙ sym (get_or_from_slice_get ys k (Some y) d at_y))

    at_place : (k : ℕ) (d : Option ℕ) → k < length names → (o : Option (List ℕ)) → place_at places k ≡ o → get_or xs k d ≡ get_or ys k d
    at_place k d h None at = get_or_from_slice_get xs k None d (a.empty k h at) ∙ sym (get_or_from_slice_get ys k None d (b.empty k h at))
    at_place k d h (Some name) at =
        let x = a.some k name at h in let y = b.some k name at h in
        at_letter k d x.0 y.0 x.2 y.2 (letter_same (sym x.1 ∙ y.1))

word_same : {u v : List ℕ} → ◌≡◌ {A = Result (List ℕ) WordFault} (Ok u) (Ok v) → u ≡ v
word_same e = cc

pub one_list_of_meanings : (names : List (List ℕ)) (inverses : List (Option ℕ)) (sides : List (Factors × Factors)) (ps qs : List Pair)
    → AreMeanings names inverses sides ps → AreMeanings names inverses sides qs → ps ≡ qs
one_list_of_meanings names inverses [] ps qs a b = a ∙ sym b
one_list_of_meanings names inverses (s ∷ sides) [] qs a b = absurd a
one_list_of_meanings names inverses (s ∷ sides) (p ∷ ps) [] a b = absurd b
one_list_of_meanings names inverses (s ∷ sides) (p ∷ ps) (q ∷ qs) a b =
    let left : p.0 ≡ q.0 = word_same (sym a.0 ∙ b.0) in
    let right : p.1 ≡ q.1 = word_same (sym a.1 ∙ b.1) in
    let first : p ≡ q = ap (λ (u : List ℕ). (u, p.1)) left ∙ ap (λ (v : List ℕ). (q.0, v)) right in
    ap (λ (r : Pair). r ∷ ps) first ∙ ap (λ (rs : List Pair). q ∷ rs) (one_list_of_meanings names inverses sides ps qs a.2 b.2)

factors_same : {u v x y : Factors} → Some (equation_value (u, v)) ≡ Some (equation_value (x, y)) → (u ≡ x) × (v ≡ y)
factors_same e = (left e, right e)
  where
    left : {u v x y : Factors} → Some (equation_value (u, v)) ≡ Some (equation_value (x, y)) → u ≡ x
    left e = cc

    right : {u v x y : Factors} → Some (equation_value (u, v)) ≡ Some (equation_value (x, y)) → v ≡ y
    right e = cc

pub sides_same : (s t : Factors × Factors) → Some (equation_value s) ≡ Some (equation_value t) → s ≡ t
sides_same s t e =
    let both = factors_same {u = s.0} {v = s.1} {x = t.0} {y = t.1} e in
    ap (λ (u : Factors). (u, s.1)) both.0 ∙ ap (λ (v : Factors). (t.0, v)) both.1

sides_injective : (ss ts : List (Factors × Factors)) → map (λ (s : Factors × Factors). Some (equation_value s)) ss ≡ map (λ (s : Factors × Factors). Some (equation_value s)) ts → ss ≡ ts
sides_injective [] [] e = refl
sides_injective [] (t ∷ ts) e = cc
sides_injective (s ∷ ss) [] e = cc
sides_injective (s ∷ ss) (t ∷ ts) e =
    ap (λ (r : Factors × Factors). r ∷ ss) (sides_same s t (front e)) ∙ ap (λ (rs : List (Factors × Factors)). t ∷ rs) (sides_injective ss ts (behind e))
  where
    behind : {v w : Option Value} {p q : List (Option Value)} → v ∷ p ≡ w ∷ q → p ≡ q
    behind h = cc

    front : {v w : Option Value} {p q : List (Option Value)} → v ∷ p ≡ w ∷ q → v ≡ w
    front h = cc

one_list_of_sides : (ss ts : List (Factors × Factors)) → list_of_equations ss ≡ list_of_equations ts → ss ≡ ts
one_list_of_sides ss ts e =
    sides_injective ss ts (places_of-injective _ _ (sym (list_of_equations-places_of ss) ∙ (e ∙ list_of_equations-places_of ts)))

-- the text's fields give one list of inverses, and one of equations
pub one_list_of_inverses : (given : Fields) (names : List (List ℕ)) (xs ys : List (Option ℕ)) → HasInverses given names xs → HasInverses given names ys → xs ≡ ys
one_list_of_inverses given names xs ys a b =
    let same = one_list_of_places _ a.places b.places a.placed b.placed in
    let P : List (Option (List ℕ)) → Type 0 = λ places. StandFor names places xs in
    one_list_of_letters names b.places xs ys (subst P same a.gives.letters) b.gives.letters

pub one_list_of_equations : (given : Fields) (names : List (List ℕ)) (inverses : List (Option ℕ)) (ps qs : List Pair)
    → HasEquations given names inverses ps → HasEquations given names inverses qs → ps ≡ qs
one_list_of_equations given names inverses ps qs a b =
    let list : a.places ≡ b.places = list_same (some_value (sym a.listed ∙ b.listed)) in
    let same = one_list_of_sides a.read.sides b.read.sides (sym a.read.listed ∙ (list ∙ b.read.listed)) in
    let P : List (Factors × Factors) → Type 0 = λ sides. AreMeanings names inverses sides ps in
    one_list_of_meanings names inverses b.read.sides ps qs (subst P same a.read.meanings) b.read.meanings

weights_same : (xs ys : List ℕ) → map pos xs ≡ map pos ys → xs ≡ ys
weights_same [] [] e = refl
weights_same [] (y ∷ ys) e = cc
weights_same (x ∷ xs) [] e = cc
weights_same (x ∷ xs) (y ∷ ys) e = let rest = weights_same xs ys (behind e) in let first = front e in cc
  where
    front : {a b : ℕ} {u v : List ℤ} → pos a ∷ u ≡ pos b ∷ v → a ≡ b
    front h = cc

    behind : {a b : ℕ} {u v : List ℤ} → pos a ∷ u ≡ pos b ∷ v → u ≡ v
    behind h = cc

-- the text gives one list of weights
one_list_of_weights : (given : Fields) (names : List (List ℕ)) (xs ys : List ℕ) → HasWeights given names xs → HasWeights given names ys → xs ≡ ys
one_list_of_weights given names xs ys a b =
    let same = one_list_of_numbers a.numbers b.numbers (some_value (sym a.listed ∙ b.listed)) in
    weights_same xs ys (sym a.are.same ∙ (same ∙ b.are.same))

-- the order of a text isn't both shortlex and by weight
pub not_both_orderings : (given : Fields) → IsOrdering given orderings.ShortLex → ¬ IsOrdering given orderings.WtLex
not_both_orderings given shortlex wtlex =
    let P : Option Value → Type 0 = λ o. IsShortlex o in
    let same : string_value (codes "wtlex") ≡ string_value (codes "shortlex") = subst P wtlex shortlex in
    different (text_same same)
  where
    text_same : {a b : List ℕ} → string_value a ≡ string_value b → a ≡ b
    text_same e = cc

    different : codes "wtlex" ≢ codes "shortlex"
    different e = cc

-- the text has one order
one_order : (given : Fields) (names : List (List ℕ)) (one other : WordOrder) → HasOrder given names one → HasOrder given names other → one ≡ other
one_order given names orders.ShortLex orders.ShortLex a b = refl
one_order given names orders.ShortLex (orders.WtLex weights) a b = absurd (not_both_orderings given a b.0)
one_order given names (orders.WtLex weights) orders.ShortLex a b = absurd (not_both_orderings given b a.0)
one_order given names (orders.WtLex xs) (orders.WtLex ys) a b = ap orders.WtLex (one_list_of_weights given names xs ys a.1 b.1)

pub one_presentation : (given : Fields) (a b : PresentationParts) → HoldsPresentation given a → HoldsPresentation given b → a ≡ b
one_presentation given a b h k = joined names inverses equations
  where
    names : a.names ≡ b.names
    names = one_list_of_names given a.names b.names h.named k.named

    N : List (List ℕ) → Type 0
    N names = HasInverses given names a.inverses

    inverses : a.inverses ≡ b.inverses
    inverses = one_list_of_inverses given b.names a.inverses b.inverses (subst N names h.inverses) k.inverses

    E : List (List ℕ) → Type 0
    E names = HasEquations given names a.inverses a.equations

    F : List (Option ℕ) → Type 0
    F inverses = HasEquations given b.names inverses a.equations

    equations : a.equations ≡ b.equations
    equations = one_list_of_equations given b.names b.inverses a.equations b.equations (subst F inverses (subst E names h.equations)) k.equations

    O : List (List ℕ) → Type 0
    O names = HasOrder given names a.order

    order : a.order ≡ b.order
    order = one_order given b.names a.order b.order (subst O names h.ordered) k.ordered

    joined : a.names ≡ b.names → a.inverses ≡ b.inverses → a.equations ≡ b.equations → a ≡ b
    joined p q r =
        λ i. record { order = order i; names = p i; inverses = q i; equations = r i }
