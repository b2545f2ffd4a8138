-- No front of a tree's tokens has more brackets open than the tree nests.
use Rattle.std.proofs.Common.{◌≡◌, ℕ, suc, ◌+◌, ◌-◌, ◌≤◌, ℤ, List, [], ◌∷◌, ◌++◌, Option, Some, None, refl, sym, subst, arith, append_assoc}
use Rattle.kb_lexing.specs.Token.{Token, open_round, close_round, open_square, close_square}
use Rattle.kb_record.specs.Tree.{Factor, named, grouped, Factors, no_factors, factor, Value, number_value, string_value, record_value, list_value, range_value, word_value, Fields, no_fields, field, Places, no_places, place, empty_place}
use Rattle.kb_record.specs.Grammar.{power_tokens, word_tokens, factor_tokens, more_factors, value_tokens, field_tokens, more_fields, place_tokens, more_places}
use Rattle.kb_record.specs.Nesting.{open_behind, word_nesting, factor_nesting, value_nesting, fields_nesting, places_nesting}

-- how many are open behind one more token
abbrev pub step : ℕ → Token → ℕ
step o open_round = suc o
step o open_square = suc o
step o close_round = o - 1
step o close_square = o - 1
step o _ = o

-- at most m are open before each token
abbrev pub Within : ℕ → ℕ → List Token → Type 0
Within m o [] = Unit {0}
Within m o (t ∷ ts) = (o ≤ m) × Within m (step o t) ts

pub open_behind-step : (o : ℕ) (t : Token) (ts : List Token) → open_behind o (t ∷ ts) ≡ open_behind (step o t) ts
open_behind-step o open_round ts = refl
open_behind-step o open_square ts = refl
open_behind-step o close_round ts = refl
open_behind-step o close_square ts = refl
open_behind-step o _ ts = refl

-- and so behind each front, where a token comes behind it
pub front_within : (m o : ℕ) (front : List Token) (next : Token) (more : List Token) → Within m o (front ++ next ∷ more) → open_behind o front ≤ m
front_within m o [] next more h = h.0
front_within m o (t ∷ front) next more h = let P : ℕ → Type 0 = λ n. n ≤ m in subst P (sym (open_behind-step o t front)) (front_within m (step o t) front next more h.1)

along : (m o : ℕ) (a b : List Token) → a ≡ b → Within m o b → Within m o a
along m o a b e h = let P : List Token → Type 0 = λ ts. Within m o ts in subst P (sym e) h

closes : (m o : ℕ) (ts : List Token) → Within m o ts → Within m (suc o - 1) ts
closes m o ts h = let e : o ≡ suc o - 1 = omega arith in let P : ℕ → Type 0 = λ n. Within m n ts in subst P e h

power_within : (power : Option ℤ) (m o : ℕ) (ts : List Token) → o ≤ m → Within m o ts → Within m o (power_tokens power ++ ts)
power_within None m o ts h w = w
power_within (Some z) m o ts h w = (h, (h, w))

mutual
  pub word_within : (fs : Factors) (m o : ℕ) (ts : List Token) → o + word_nesting fs ≤ m → Within m o ts → Within m o (word_tokens fs ++ ts)
  word_within no_factors m o ts h w = w
  word_within (factor f fs) m o ts h w = along m o _ _ (append_assoc (factor_tokens f) (more_factors fs) ts) (factor_within f m o (more_factors fs ++ ts) (omega arith) (more_within fs m o ts (omega arith) w))

  pub factor_within : (f : Factor) (m o : ℕ) (ts : List Token) → o + factor_nesting f ≤ m → Within m o ts → Within m o (factor_tokens f ++ ts)
  factor_within (named text power) m o ts h w = let le : o ≤ m = omega arith in (le, power_within power m o ts le w)
  factor_within (grouped fs power) m o ts h w =
      let le : o ≤ m = omega arith in (
        le,
        along m (suc o) _ _ (append_assoc (word_tokens fs) (close_round ∷ power_tokens power) ts)
            (word_within fs m (suc o) (close_round ∷ power_tokens power ++ ts) (omega arith) (omega arith, closes m o (power_tokens power ++ ts) (power_within power m o ts le w))),
      )

  more_within : (fs : Factors) (m o : ℕ) (ts : List Token) → o + word_nesting fs ≤ m → Within m o ts → Within m o (more_factors fs ++ ts)
  more_within no_factors m o ts h w = w
  more_within (factor f fs) m o ts h w =
      (omega arith, along m o _ _ (append_assoc (factor_tokens f) (more_factors fs) ts) (factor_within f m o (more_factors fs ++ ts) (omega arith) (more_within fs m o ts (omega arith) w)))

mutual
  pub value_within : (v : Value) (m o : ℕ) (ts : List Token) → o + value_nesting v ≤ m → Within m o ts → Within m o (value_tokens v ++ ts)
  value_within (number_value z) m o ts h w = (omega arith, w)
  value_within (string_value text) m o ts h w = (omega arith, w)
  value_within (record_value fs) m o ts h w =
      (omega arith, (omega arith, along m (suc o) _ _ (append_assoc (field_tokens fs) (close_round ∷ []) ts) (fields_within fs m (suc o) (close_round ∷ ts) (omega arith) (omega arith, closes m o ts w))))
  value_within (list_value ps) m o ts h w =
      (omega arith, along m (suc o) _ _ (append_assoc (place_tokens ps) (close_square ∷ []) ts) (places_within ps m (suc o) (close_square ∷ ts) (omega arith) (omega arith, closes m o ts w)))
  value_within (range_value from to) m o ts h w = (omega arith, (omega arith, (omega arith, (omega arith, (omega arith, closes m o ts w)))))
  value_within (word_value fs) m o ts h w = word_within fs m o ts h w

  pub fields_within : (fs : Fields) (m o : ℕ) (ts : List Token) → o + fields_nesting fs ≤ m → Within m o ts → Within m o (field_tokens fs ++ ts)
  fields_within no_fields m o ts h w = w
  fields_within (field text v fs) m o ts h w =
      (omega arith, (omega arith, along m o _ _ (append_assoc (value_tokens v) (more_fields fs) ts) (value_within v m o (more_fields fs ++ ts) (omega arith) (more_fields_within fs m o ts (omega arith) w))))

  more_fields_within : (fs : Fields) (m o : ℕ) (ts : List Token) → o + fields_nesting fs ≤ m → Within m o ts → Within m o (more_fields fs ++ ts)
  more_fields_within no_fields m o ts h w = w
  more_fields_within (field text v fs) m o ts h w =
      (omega arith, (omega arith, (omega arith, along m o _ _ (append_assoc (value_tokens v) (more_fields fs) ts) (value_within v m o (more_fields fs ++ ts) (omega arith) (more_fields_within fs m o ts (omega arith) w)))))

  pub places_within : (ps : Places) (m o : ℕ) (ts : List Token) → o + places_nesting ps ≤ m → Within m o ts → Within m o (place_tokens ps ++ ts)
  places_within no_places m o ts h w = w
  places_within (place v ps) m o ts h w = along m o _ _ (append_assoc (value_tokens v) (more_places ps) ts) (value_within v m o (more_places ps ++ ts) (omega arith) (more_places_within ps m o ts (omega arith) w))
  places_within (empty_place ps) m o ts h w = more_places_within ps m o ts h w

  more_places_within : (ps : Places) (m o : ℕ) (ts : List Token) → o + places_nesting ps ≤ m → Within m o ts → Within m o (more_places ps ++ ts)
  more_places_within no_places m o ts h w = w
  more_places_within (place v ps) m o ts h w =
      (omega arith, along m o _ _ (append_assoc (value_tokens v) (more_places ps) ts) (value_within v m o (more_places ps ++ ts) (omega arith) (more_places_within ps m o ts (omega arith) w)))
  more_places_within (empty_place ps) m o ts h w = (omega arith, more_places_within ps m o ts h w)
