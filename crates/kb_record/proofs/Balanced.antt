-- The tokens of a tree close each bracket that they open.
use Rattle.std.proofs.Common.{◌≡◌, ℕ, suc, ◌-◌, ℤ, List, [], ◌∷◌, ◌++◌, Option, Some, None, refl, ap, ◌∙◌, arith, append_assoc}
use Rattle.kb_lexing.specs.Token.{Token, close_round, close_square}
use Rattle.kb_record.specs.Tree.{Factor, named, grouped, Factors, no_factors, factor, Value, number_value, string_value, record_value, list_value, range_value, word_value, Fields, no_fields, field, Places, no_places, place, empty_place}
use Rattle.kb_record.specs.Grammar.{power_tokens, word_tokens, factor_tokens, more_factors, value_tokens, field_tokens, more_fields, place_tokens, more_places}
use Rattle.kb_record.specs.Nesting.{open_behind}

closed : (o : ℕ) (tokens : List Token) → open_behind (suc o - 1) tokens ≡ open_behind o tokens
closed o tokens = let e : suc o - 1 ≡ o = omega arith in ap (λ n. open_behind n tokens) e

power_balanced : (power : Option ℤ) (o : ℕ) (ts : List Token) → open_behind o (power_tokens power ++ ts) ≡ open_behind o ts
power_balanced None o ts = refl
power_balanced (Some z) o ts = refl

mutual
  pub word_balanced : (fs : Factors) (o : ℕ) (ts : List Token) → open_behind o (word_tokens fs ++ ts) ≡ open_behind o ts
  word_balanced no_factors o ts = refl
  word_balanced (factor f fs) o ts = ap (open_behind o) (append_assoc (factor_tokens f) (more_factors fs) ts) ∙ factor_balanced f o (more_factors fs ++ ts) ∙ more_balanced fs o ts

  pub factor_balanced : (f : Factor) (o : ℕ) (ts : List Token) → open_behind o (factor_tokens f ++ ts) ≡ open_behind o ts
  factor_balanced (named text power) o ts = power_balanced power o ts
  factor_balanced (grouped fs power) o ts =
      ap (open_behind (suc o)) (append_assoc (word_tokens fs) (close_round ∷ power_tokens power) ts) ∙ word_balanced fs (suc o) (close_round ∷ power_tokens power ++ ts)
      ∙ closed o (power_tokens power ++ ts) ∙ power_balanced power o ts

  more_balanced : (fs : Factors) (o : ℕ) (ts : List Token) → open_behind o (more_factors fs ++ ts) ≡ open_behind o ts
  more_balanced no_factors o ts = refl
  more_balanced (factor f fs) o ts = ap (open_behind o) (append_assoc (factor_tokens f) (more_factors fs) ts) ∙ factor_balanced f o (more_factors fs ++ ts) ∙ more_balanced fs o ts

mutual
  pub value_balanced : (v : Value) (o : ℕ) (ts : List Token) → open_behind o (value_tokens v ++ ts) ≡ open_behind o ts
  value_balanced (number_value z) o ts = refl
  value_balanced (string_value text) o ts = refl
  value_balanced (record_value fs) o ts = ap (open_behind (suc o)) (append_assoc (field_tokens fs) (close_round ∷ []) ts) ∙ fields_balanced fs (suc o) (close_round ∷ ts) ∙ closed o ts
  value_balanced (list_value ps) o ts = ap (open_behind (suc o)) (append_assoc (place_tokens ps) (close_square ∷ []) ts) ∙ places_balanced ps (suc o) (close_square ∷ ts) ∙ closed o ts
  value_balanced (range_value from to) o ts = closed o ts
  value_balanced (word_value fs) o ts = word_balanced fs o ts

  pub fields_balanced : (fs : Fields) (o : ℕ) (ts : List Token) → open_behind o (field_tokens fs ++ ts) ≡ open_behind o ts
  fields_balanced no_fields o ts = refl
  fields_balanced (field text v fs) o ts = ap (open_behind o) (append_assoc (value_tokens v) (more_fields fs) ts) ∙ value_balanced v o (more_fields fs ++ ts) ∙ more_fields_balanced fs o ts

  more_fields_balanced : (fs : Fields) (o : ℕ) (ts : List Token) → open_behind o (more_fields fs ++ ts) ≡ open_behind o ts
  more_fields_balanced no_fields o ts = refl
  more_fields_balanced (field text v fs) o ts = ap (open_behind o) (append_assoc (value_tokens v) (more_fields fs) ts) ∙ value_balanced v o (more_fields fs ++ ts) ∙ more_fields_balanced fs o ts

  pub places_balanced : (ps : Places) (o : ℕ) (ts : List Token) → open_behind o (place_tokens ps ++ ts) ≡ open_behind o ts
  places_balanced no_places o ts = refl
  places_balanced (place v ps) o ts = ap (open_behind o) (append_assoc (value_tokens v) (more_places ps) ts) ∙ value_balanced v o (more_places ps ++ ts) ∙ more_places_balanced ps o ts
  places_balanced (empty_place ps) o ts = more_places_balanced ps o ts

  more_places_balanced : (ps : Places) (o : ℕ) (ts : List Token) → open_behind o (more_places ps ++ ts) ≡ open_behind o ts
  more_places_balanced no_places o ts = refl
  more_places_balanced (place v ps) o ts = ap (open_behind o) (append_assoc (value_tokens v) (more_places ps) ts) ∙ value_balanced v o (more_places ps ++ ts) ∙ more_places_balanced ps o ts
  more_places_balanced (empty_place ps) o ts = more_places_balanced ps o ts
