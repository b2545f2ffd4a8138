-- Tokens whose last one is `rec`: those of no word or value are.
use Rattle.std.proofs.Common.{◌⊎◌, inl, inr, List, [], ◌∷◌, ◌++◌, Some, None, subst, append-nil}
use Rattle.kb_lexing.specs.Token.{Token, star, open_round, close_round, open_square, close_square, rec_word}
use Rattle.kb_record.specs.Tree.{Factor, named, grouped, Factors, no_factors, factor, Value, number_value, string_value, record_value, list_value, range_value, word_value}
use Rattle.kb_record.specs.Grammar.{power_tokens, word_tokens, factor_tokens, value_tokens, field_tokens, place_tokens}

abbrev pub EndsInRec : List Token → Type 0
EndsInRec [] = ⊥
EndsInRec (rec_word ∷ []) = Unit {0}
EndsInRec (_ ∷ []) = ⊥
EndsInRec (t ∷ u ∷ ts) = EndsInRec (u ∷ ts)

pub ends_behind : (some : List Token) (t : Token) (more : List Token) → EndsInRec (some ++ t ∷ more) → EndsInRec (t ∷ more)
ends_behind [] t more h = h
ends_behind (s ∷ []) t more h = h
ends_behind (s ∷ u ∷ some) t more h = ends_behind (u ∷ some) t more h

pub ends_split : (some more : List Token) → EndsInRec (some ++ more) → EndsInRec some ⊎ EndsInRec more
ends_split some [] h = let P : List Token → Type 0 = EndsInRec in inl (subst P (append-nil some) h)
ends_split some (t ∷ more) h = inr (ends_behind some t more h)

behind_star : (ts : List Token) → EndsInRec (star ∷ ts) → EndsInRec ts
behind_star [] h = h
behind_star (t ∷ ts) h = h

behind_bracket : (ts : List Token) → EndsInRec (open_round ∷ ts) → EndsInRec ts
behind_bracket [] h = h
behind_bracket (t ∷ ts) h = h

pub factor_unrec : (f : Factor) → EndsInRec (factor_tokens f) → ⊥
factor_unrec (named text None) h = h
factor_unrec (named text (Some z)) h = h
factor_unrec (grouped fs None) h = ends_behind (word_tokens fs) close_round [] (behind_bracket (word_tokens fs ++ close_round ∷ []) h)
factor_unrec (grouped fs (Some z)) h = ends_behind (word_tokens fs) close_round (power_tokens (Some z)) (behind_bracket (word_tokens fs ++ close_round ∷ power_tokens (Some z)) h)

pub word_unrec : (fs : Factors) → EndsInRec (word_tokens fs) → ⊥
word_unrec no_factors h = h
word_unrec (factor f no_factors) h = let P : List Token → Type 0 = EndsInRec in factor_unrec f (subst P (append-nil (factor_tokens f)) h)
word_unrec (factor f (factor g gs)) h = word_unrec (factor g gs) (behind_star (word_tokens (factor g gs)) (ends_behind (factor_tokens f) star (word_tokens (factor g gs)) h))

pub value_unrec : (v : Value) → EndsInRec (value_tokens v) → ⊥
value_unrec (number_value z) h = h
value_unrec (string_value text) h = h
value_unrec (record_value fs) h = ends_behind (rec_word ∷ open_round ∷ field_tokens fs) close_round [] h
value_unrec (list_value ps) h = ends_behind (open_square ∷ place_tokens ps) close_square [] h
value_unrec (range_value from to) h = h
value_unrec (word_value fs) h = word_unrec fs h
