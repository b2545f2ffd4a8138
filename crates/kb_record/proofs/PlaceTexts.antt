-- What the text of a place of a list tells of what stands there.
use Rattle.std.proofs.Common.{◌≡◌, ℕ, suc, ◌≤◌, ℤ, List, [], ◌∷◌, ◌++◌, Bool, true, false, if◌then◌else◌, Some, None, refl, sym, ap, ◌∙◌, subst}
use Rattle.kb_lexing.specs.Token.{Token, name, number, open_round}
use Rattle.kb_record.specs.Tree.{Factors, no_factors, factor, named, grouped, Value, number_value, string_value, word_value}
use Rattle.kb_record.specs.Grammar.{word_tokens, value_tokens, IsWord, IsValue}
use Rattle.kb_record.specs.Nesting.{deepest}
use Rattle.kb_record.specs.Reading.{Reading, read, unexpected, too_deep, reading_map, begins_word, ends_place, first_number, place_with, read_word, read_value}
use Rattle.kb_record.specs.View.{factors_in, value_in, first_value, first_place_in}
use Rattle.kb_record.proofs.Deeper.{word_deeper, value_deeper}
use Rattle.kb_record.proofs.Depths.{read_value_is, value-word}
use Rattle.kb_record.proofs.ReadingForms.{Meets}
use Rattle.kb_record.proofs.ValueParts.{value_form}
use Rattle.kb_record.proofs.ValueForms.{value_meets}

-- ---- a place that is read at any depth is the one that its text tells

-- a word that is read is made of factors that are read
word_of_map : (tokens rest : List Token) (v : Value) (reading : Reading Factors) → reading_map word_value reading ≡ read v rest → (reading ≡ read (factors_in reading) rest) × (v ≡ word_value (factors_in reading))
word_of_map tokens rest v (read fs left) e = let same : left ≡ rest = cc in (ap (read fs) same, cc)
word_of_map tokens rest v (unexpected expected left) e = cc
word_of_map tokens rest v (too_deep left) e = cc

word_shown : (d : ℕ) (tokens rest : List Token) (v : Value) → d ≤ deepest → begins_word tokens ≡ true → read_value d tokens ≡ read v rest → word_value (factors_in (read_word deepest tokens)) ≡ v
word_shown d tokens rest v le begins e =
    let parts = word_of_map tokens rest v (read_word d tokens) (sym (value-word d tokens begins) ∙ e) in
    ap word_value (ap factors_in (word_deeper d deepest le tokens (factors_in (read_word d tokens)) rest parts.0)) ∙ sym parts.1

value_shown : (d : ℕ) (tokens rest : List Token) (v : Value) (begins : Bool) → d ≤ deepest → begins_word tokens ≡ begins → read_value d tokens ≡ read v rest
    → (if begins then word_value (factors_in (read_word deepest tokens)) else value_in (read_value deepest tokens)) ≡ v
value_shown d tokens rest v true le begins e = word_shown d tokens rest v le begins e
value_shown d tokens rest v false le begins e = ap value_in (value_deeper d deepest le tokens v rest e)

-- the value that is read is the first value
pub first_value_is : (d : ℕ) (tokens rest : List Token) (v : Value) → d ≤ deepest → read_value d tokens ≡ read v rest → first_value tokens ≡ v
first_value_is d tokens rest v le e = value_shown d tokens rest v (begins_word tokens) le refl e

-- an empty place
pub place_ended : (tokens : List Token) → ends_place tokens ≡ true → first_place_in tokens ≡ None
place_ended tokens e = ap (λ b. if b then None else Some (first_value tokens)) e

pub place_full : (tokens : List Token) → ends_place tokens ≡ false → first_place_in tokens ≡ Some (first_value tokens)
place_full tokens e = ap (λ b. if b then None else Some (first_value tokens)) e

-- so the place that is read is the first one
pub ended_reads : (value : List Token → Reading Value) (tokens : List Token) → ends_place tokens ≡ true → place_with value tokens ≡ read (first_place_in tokens) tokens
ended_reads value tokens e = ap (λ b. if b then read None tokens else reading_map Some (value tokens)) e ∙ ap (λ p. read p tokens) (sym (place_ended tokens e))

pub full_reads : (d : ℕ) (tokens rest : List Token) (v : Value) → d ≤ deepest → ends_place tokens ≡ false → read_value d tokens ≡ read v rest → place_with (read_value d) tokens ≡ read (first_place_in tokens) rest
full_reads d tokens rest v le e h =
    ap (λ b. if b then read None tokens else reading_map Some (read_value d tokens)) e ∙ ap (reading_map Some) h
    ∙ ap (λ p. read p rest) (sym (place_full tokens e ∙ ap Some (first_value_is d tokens rest v le h)))

-- ---- numbers

-- a number stands first
pub first_number_is : (tokens rest : List Token) (z : ℤ) → first_number tokens ≡ Some (z, rest) → first_place_in tokens ≡ Some (number_value z)
first_number_is (number y ∷ tokens) rest z e =
    let same : ◌≡◌ {A = ℤ × List Token} (y, tokens) (z, rest) = cc in
    ap (λ r. Some (value_in r)) (read_value_is deepest (number y ∷ tokens)) ∙ ap (λ (p : ℤ × List Token). Some (number_value p.0)) same
first_number_is _ rest z e = cc

-- the tokens of what is read, which is none of the texts that can't be read
pub tokens_read : (v : Value) (tokens : List Token) (reading : Reading Value) → Meets value_form deepest (suc deepest) tokens reading → value_in reading ≡ v → (string_value [] ≡ v → ⊥) → (rest : List Token) × IsValue v × (tokens ≡ value_tokens v ++ rest)
tokens_read v tokens (read tree rest) h e differs = (rest, subst IsValue e h.good, h.whole ∙ ap (λ x. value_tokens x ++ rest) e)
tokens_read v tokens (unexpected expected rest) h e differs = absurd (differs e)
tokens_read v tokens (too_deep rest) h e differs = absurd (differs e)

-- what differs from the word and from the value that stand first isn't there
not_as : (v word value : Value) (ended begins : Bool) → (begins ≡ true → word ≡ v → ⊥) → (begins ≡ false → value ≡ v → ⊥) → (if ended then None else Some (if begins then word else value)) ≡ Some v → ⊥
not_as v word value true begins h k e = cc
not_as v word value false true h k e = let same : word ≡ v = cc in h refl same
not_as v word value false false h k e = let same : value ≡ v = cc in k refl same

not_shown : (tokens : List Token) (v : Value) → (begins_word tokens ≡ true → word_value (factors_in (read_word deepest tokens)) ≡ v → ⊥) → (begins_word tokens ≡ false → value_in (read_value deepest tokens) ≡ v → ⊥) → first_place_in tokens ≡ Some v → ⊥
not_shown tokens v h k e = not_as v (word_value (factors_in (read_word deepest tokens))) (value_in (read_value deepest tokens)) (ends_place tokens) (begins_word tokens) h k e

no_number_in : (tokens rest : List Token) (z : ℤ) → first_number tokens ≡ None → tokens ≡ number z ∷ rest → ⊥
no_number_in tokens rest z none e = let found : first_number tokens ≡ Some (z, rest) = ap first_number e in cc

-- no number stands first
pub no_first_number : (tokens : List Token) (z : ℤ) → first_number tokens ≡ None → first_place_in tokens ≡ Some (number_value z) → ⊥
no_first_number tokens z none =
    not_shown tokens (number_value z) (λ begins word. cc)
    (λ begins value. let found = tokens_read (number_value z) tokens (read_value deepest tokens) (value_meets deepest tokens) value (λ never. cc) in no_number_in tokens found.0 z none found.2)

-- ---- words

pub begins_word-word : (fs : Factors) → IsWord fs → (ts : List Token) → begins_word (word_tokens fs ++ ts) ≡ true
begins_word-word no_factors good ts = absurd good
begins_word-word (factor (named text power) fs) good ts = refl
begins_word-word (factor (grouped inside power) fs) good ts = refl

-- a word stands first
pub first_word_shown : (tokens : List Token) → begins_word tokens ≡ true → first_place_in tokens ≡ Some (word_value (factors_in (read_word deepest tokens)))
first_word_shown (name text ∷ tokens) e = refl
first_word_shown (open_round ∷ tokens) e = refl
first_word_shown _ e = cc

-- no word stands first
pub no_first_word : (tokens : List Token) (fs : Factors) → begins_word tokens ≡ false → first_place_in tokens ≡ Some (word_value fs) → ⊥
no_first_word tokens fs none =
    not_shown tokens (word_value fs) (λ begins word. cc)
    (λ begins value.
    let found = tokens_read (word_value fs) tokens (read_value deepest tokens) (value_meets deepest tokens) value (λ never. cc) in
    let begun : begins_word tokens ≡ true = ap begins_word found.2 ∙ begins_word-word fs found.1 found.0 in
    cc)

-- where neither stands first, it is the value that is read
pub first_read : (tokens : List Token) → ends_place tokens ≡ false → begins_word tokens ≡ false → first_place_in tokens ≡ Some (value_in (read_value deepest tokens))
first_read tokens e f = place_full tokens e ∙ ap (λ b. Some (if b then word_value (factors_in (read_word deepest tokens)) else value_in (read_value deepest tokens))) f
