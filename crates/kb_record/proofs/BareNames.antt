-- A word that is a name alone, told by the tokens that stand first.
use Rattle.std.proofs.Common.{◌≡◌, ℕ, zero, suc, ◌-◌, ℤ, List, [], ◌∷◌, ◌++◌, length, Bool, true, false, if◌then◌else◌, Option, Some, None, refl, sym, ap, ◌∙◌, arith}
use Rattle.kb_lexing.specs.Token.{Token, name}
use Rattle.kb_record.specs.Tree.{Factor, named, Factors, no_factors, factor}
use Rattle.kb_record.specs.Grammar.{word_tokens}
use Rattle.kb_record.specs.Reading.{Reading, read, unexpected, too_deep, Parse, and_then, reading_map, after_items, behind, joined, passes, first_name, read_name, read_number, read_power, power_behind, factor_behind, read_factor, read_group, read_word}
use Rattle.kb_record.specs.View.{factors_of, factors_in, one_name}
use Rattle.kb_record.specs.declared.cursor.Mark.TheVariants.{Star, Caret, OpenRound}
use Rattle.kb_record.proofs.Depths.{read_word_is}
use Rattle.kb_record.proofs.PassedMarks.{behind-is}
use Rattle.kb_record.proofs.ReadRows.{none_before, turn, last, not_passed, passed}
use Rattle.kb_record.proofs.Outcomes.{name_then}
use Rattle.kb_record.proofs.ReadingForms.{Meets}
use Rattle.kb_record.proofs.WordForms.{word_form, word_meets}

-- the parts of what stands first
abbrev text_in : Option (List ℕ × List Token) → List ℕ
text_in None = []
text_in (Some found) = found.0

abbrev left_in : Option (List ℕ × List Token) → List Token
left_in None = []
left_in (Some found) = found.1

first_name-is : (tokens rest : List Token) (text : List ℕ) → first_name tokens ≡ Some (text, rest) → tokens ≡ name text ∷ rest
first_name-is (name spelling ∷ tokens) rest text e =
    let same : spelling ≡ text = ap text_in e in
    let left : tokens ≡ rest = ap left_in e in
    cc
first_name-is _ rest text e = cc

-- the tokens begin with the name of a word that is a name alone
begins_with : (d : ℕ) (tokens : List Token) (text : List ℕ) (reading : Reading Factors) → Meets word_form d (suc d) tokens reading → factors_in reading ≡ one_name text → (rest : List Token) × (tokens ≡ name text ∷ rest)
begins_with d tokens text (read tree rest) h e = (rest, h.whole ∙ ap (λ fs. word_tokens fs ++ rest) e)
begins_with d tokens text (unexpected expected rest) h e = cc
begins_with d tokens text (too_deep rest) h e = cc

-- where no name stands first
pub no_name : (d : ℕ) (tokens : List Token) (text : List ℕ) → first_name tokens ≡ None → factors_in (read_word d tokens) ≡ one_name text → ⊥
no_name d tokens text none e =
    let begun = begins_with d tokens text (read_word d tokens) (word_meets d tokens) e in
    let found : first_name tokens ≡ Some (text, begun.0) = ap first_name begun.1 in
    cc

named_first : (d : ℕ) (tokens rest left : List Token) (text : List ℕ) (power : Option ℤ) → first_name tokens ≡ Some (text, rest) → read_power rest ≡ read power left → read_factor d tokens ≡ read (named text power) left
named_first d tokens rest left text power e p =
    let whole = first_name-is tokens rest text e in
    name_then (read_group d) tokens rest left text power (ap (behind OpenRound) whole) (ap read_name whole) p

-- a name alone
pub name_alone : (d : ℕ) (tokens rest : List Token) (text : List ℕ) → first_name tokens ≡ Some (text, rest) → behind Star rest ≡ None → behind Caret rest ≡ None → factors_in (read_word d tokens) ≡ one_name text
name_alone d tokens rest text e no_star no_power =
    let item = named_first d tokens rest rest text None e (ap (power_behind rest) no_power) in
    let star : passes Star rest ≡ read false rest = not_passed Star rest rest no_star refl in
    let items = last (read_factor d) (passes Star) [] (suc (length tokens)) tokens rest rest (named text None) (omega arith) item star in
    ap factors_in (read_word_is d tokens ∙ ap (reading_map factors_of) (none_before (joined (read_factor d) (passes Star) (suc (length tokens)) tokens) ∙ items))

-- ---- more than a name

abbrev NotNone : {A : Type 0} → Reading (List A) → Type 0
NotNone (read [] rest) = ⊥
NotNone _ = Unit {0}

module _ {A : Type 0} (item : Parse A) (goes_on : Parse Bool) (n : ℕ) where
  abbrev behind_first : A → Bool → Parse (List A)
  behind_first first more others = if more then reading_map (λ items. first ∷ items) (joined item goes_on n others) else read (first ∷ []) others

  some_mapped : (first : A) (reading : Reading (List A)) → NotNone (reading_map (λ items. first ∷ items) reading)
  some_mapped first (read items rest) = tt
  some_mapped first (unexpected expected rest) = tt
  some_mapped first (too_deep rest) = tt

  some_behind : (first : A) (more : Bool) (others : List Token) → NotNone (behind_first first more others)
  some_behind first true others = some_mapped first (joined item goes_on n others)
  some_behind first false others = tt

  some_turned : (first : A) (turned : Reading Bool) → NotNone (and_then turned (behind_first first))
  some_turned first (read more others) = some_behind first more others
  some_turned first (unexpected expected rest) = tt
  some_turned first (too_deep rest) = tt

  some_item : (reading : Reading A) → NotNone (and_then reading (λ first rest. and_then (goes_on rest) (behind_first first)))
  some_item (read first rest) = some_turned first (goes_on rest)
  some_item (unexpected expected rest) = tt
  some_item (too_deep rest) = tt

-- a row that is read has an item
joined_some : {A : Type 0} (item : Parse A) (goes_on : Parse Bool) (n : ℕ) (tokens : List Token) → NotNone (joined item goes_on n tokens)
unfolding joined
joined_some item goes_on zero tokens = tt
joined_some item goes_on (suc n) tokens = some_item item goes_on n (item tokens)

two_factors : (f : Factor) (text : List ℕ) (others : Reading (List Factor)) → NotNone others → factors_in (reading_map factors_of (after_items (f ∷ []) others)) ≡ one_name text → ⊥
two_factors f text (read [] rest) some e = some
two_factors f text (read (g ∷ gs) rest) some e = cc
two_factors f text (unexpected expected rest) some e = cc
two_factors f text (too_deep rest) some e = cc

-- a name that is multiplied
pub name_times : (d : ℕ) (tokens rest others : List Token) (text other : List ℕ) → first_name tokens ≡ Some (text, rest) → behind Star rest ≡ Some others → factors_in (read_word d tokens) ≡ one_name other → ⊥
name_times d tokens rest others text other e times is =
    let no_power : behind Caret rest ≡ None = ap (behind Caret) (behind-is Star rest others times) in
    let item = named_first d tokens rest rest text None e (ap (power_behind rest) no_power) in
    let star : passes Star rest ≡ read true others = passed Star rest others times in
    let items = turn (read_factor d) (passes Star) [] (suc (length tokens)) tokens rest others (named text None) (omega arith) item star in
    let whole = read_word_is d tokens ∙ ap (reading_map factors_of) (none_before (joined (read_factor d) (passes Star) (suc (length tokens)) tokens) ∙ items) in
    two_factors (named text None) other (joined (read_factor d) (passes Star) (suc (length tokens) - 1) others) (joined_some (read_factor d) (passes Star) (suc (length tokens) - 1) others) (sym (ap factors_in whole) ∙ is)

-- ---- a power

module _ (goes_on : Parse Bool) (item : Parse Factor) (n : ℕ) (f : Factor) where
  one_mapped : (first : Factor) (reading : Reading (List Factor)) → factors_in (reading_map factors_of (reading_map (λ items. first ∷ items) reading)) ≡ factor f no_factors → first ≡ f
  one_mapped first (read items rest) e = cc
  one_mapped first (unexpected expected rest) e = cc
  one_mapped first (too_deep rest) e = cc

  one_behind : (first : Factor) (more : Bool) (others : List Token) → factors_in (reading_map factors_of (behind_first item goes_on n first more others)) ≡ factor f no_factors → first ≡ f
  one_behind first true others e = one_mapped first (joined item goes_on n others) e
  one_behind first false others e = cc

  one_turned : (first : Factor) (turned : Reading Bool) → factors_in (reading_map factors_of (and_then turned (behind_first item goes_on n first))) ≡ factor f no_factors → first ≡ f
  one_turned first (read more others) e = one_behind first more others e
  one_turned first (unexpected expected rest) e = cc
  one_turned first (too_deep rest) e = cc

  -- the one factor is the item that was read first
  one_item : (reading : Reading Factor) → factors_in (reading_map factors_of (and_then reading (λ first rest. and_then (goes_on rest) (behind_first item goes_on n first)))) ≡ factor f no_factors → (rest : List Token) × (reading ≡ read f rest)
  one_item (read first rest) e = (rest, ap (λ g. read g rest) (one_turned first (goes_on rest) e))
  one_item (unexpected expected rest) e = cc
  one_item (too_deep rest) e = cc

first_factor : (d : ℕ) (tokens : List Token) (f : Factor) → factors_in (reading_map factors_of (joined (read_factor d) (passes Star) (suc (length tokens)) tokens)) ≡ factor f no_factors → (rest : List Token) × (read_factor d tokens ≡ read f rest)
unfolding joined
first_factor d tokens f e = one_item (passes Star) (read_factor d) (length tokens) f (read_factor d tokens) e

power_of_name : (text other : List ℕ) (rest : List Token) (number : Reading ℤ) → reading_map (named text) (reading_map Some number) ≡ read (named other None) rest → ⊥
power_of_name text other rest (read z left) e = cc
power_of_name text other rest (unexpected expected left) e = cc
power_of_name text other rest (too_deep left) e = cc

-- a name that has a power
pub name_powered : (d : ℕ) (tokens rest others : List Token) (text other : List ℕ) → first_name tokens ≡ Some (text, rest) → behind Caret rest ≡ Some others → factors_in (read_word d tokens) ≡ one_name other → ⊥
name_powered d tokens rest others text other e raised is =
    let whole = first_name-is tokens rest text e in
    let found = first_factor d tokens (named other None) (ap factors_in (sym (read_word_is d tokens)) ∙ is) in
    let spelled : read_factor d tokens ≡ reading_map (named text) (read_power rest) =
    ap (factor_behind (read_group d) tokens) (ap (behind OpenRound) whole) ∙ ap (λ r. and_then r (λ spelling left. reading_map (named spelling) (read_power left))) (ap read_name whole) in
    let number : read_power rest ≡ reading_map Some (read_number others) = ap (power_behind rest) raised in
    power_of_name text other found.0 (read_number others) (sym (spelled ∙ ap (reading_map (named text)) number) ∙ found.1)
