-- The names that stand twice at a place of a list, and those that a pass over its tokens meets.
use Rattle.std.proofs.Common.{◌≡◌, ℕ, suc, List, [], ◌∷◌, ◌++◌, Bool, true, false, if◌then◌else◌, Option, Some, None, refl, sym, ap, subst, ◌∙◌}
use Rattle.kb_lexing.specs.Token.{Token, open_round, rec_word}
use Rattle.kb_record.specs.Tree.{Factors, Value, number_value, string_value, record_value, list_value, range_value, word_value}
use Rattle.kb_record.specs.Grammar.{value_tokens}
use Rattle.kb_record.specs.Nesting.{deepest}
use Rattle.kb_record.specs.Reading.{Reading, read, unexpected, too_deep, behind, begins_word, ends_place, read_word, read_value, IsRead}
use Rattle.kb_record.specs.View.{factors_in, value_in, first_place_in}
use Rattle.kb_record.specs.Repeats.{Naming, namings, HasFieldTwice, HasFieldTwiceAt, IsFirst, IsFirstRepeatedAt, NoneIs}
use Rattle.kb_record.specs.NamesMet.{opened, names_met, opening}
use Rattle.kb_record.specs.declared.cursor.Mark.TheVariants.{OpenRound, OpenSquare, Rec}
use Rattle.kb_record.proofs.MetLemmas.{no_word, inside_met}
use Rattle.kb_record.proofs.OnceLemmas.{once_within}
use Rattle.kb_record.proofs.PassedMarks.{behind-is}
use Rattle.kb_record.proofs.PlaceTexts.{first_read}
use Rattle.kb_record.proofs.ReadingForms.{Meets}
use Rattle.kb_record.proofs.ValueForms.{value_meets}
use Rattle.kb_record.proofs.ValueParts.{value_form}

-- ---- where no record and no list begins

abbrev pub NoRecord : List Token → Type 0
NoRecord tokens = (rest : List Token) → tokens ≡ rec_word ∷ open_round ∷ rest → ⊥

pub no_rec : (tokens : List Token) → behind Rec tokens ≡ None → NoRecord tokens
no_rec tokens none rest e = let found : behind Rec tokens ≡ Some (open_round ∷ rest) = ap (behind Rec) e in cc

pub no_round : (tokens more : List Token) → behind Rec tokens ≡ Some more → behind OpenRound more ≡ None → NoRecord tokens
no_round tokens more first none rest e =
    let whole = behind-is Rec tokens more first in
    let same : more ≡ open_round ∷ rest = cc in
    let found : behind OpenRound more ≡ Some rest = ap (behind OpenRound) same in
    cc

module _ (tokens : List Token) (q : List ℕ) (no_list : behind OpenSquare tokens ≡ None) (no_record : NoRecord tokens) where
  value_once : (v : Value) (rest : List Token) → tokens ≡ value_tokens v ++ rest → HasFieldTwice v q → ⊥
  value_once (number_value z) rest e twice = twice
  value_once (string_value text) rest e twice = twice
  value_once (record_value inside) rest e twice = no_record _ e
  value_once (list_value inside) rest e twice = let found = ap (behind OpenSquare) e in cc
  value_once (range_value from to) rest e twice = twice
  value_once (word_value word) rest e twice = twice

  read_once : (reading : Reading Value) → Meets value_form deepest (suc deepest) tokens reading → HasFieldTwice (value_in reading) q → ⊥
  read_once (read v rest) m twice = value_once v rest m.whole twice
  read_once (unexpected expected rest) m twice = twice
  read_once (too_deep rest) m twice = twice

  place_once : (word : Factors) (v : Value) (ended begins : Bool) → (HasFieldTwice v q → ⊥) → HasFieldTwiceAt (if ended then None else Some (if begins then word_value word else v)) q → ⊥
  place_once word v true begins once twice = twice
  place_once word v false true once twice = twice
  place_once word v false false once twice = once twice

  pub neither_twice : HasFieldTwiceAt (first_place_in tokens) q → ⊥
  neither_twice =
      place_once (factors_in (read_word deepest tokens)) (value_in (read_value deepest tokens)) (ends_place tokens) (begins_word tokens)
      (read_once (read_value deepest tokens) (value_meets deepest tokens))

-- ---- behind what opens a record or a list

no_end : (of_record : Bool) (inside : List Token) → ends_place (opening of_record ++ inside) ≡ false
no_end true inside = refl
no_end false inside = refl

module _ (tokens inside : List Token) (of_record : Bool) (e : tokens ≡ opening of_record ++ inside) where
  place_is : first_place_in tokens ≡ Some (value_in (read_value deepest tokens))
  place_is = first_read tokens (ap ends_place e ∙ no_end of_record inside) (ap begins_word e ∙ no_word of_record inside)

  met : (v : Value) (rest : List Token) → Meets value_form deepest (suc deepest) tokens (read v rest) → names_met inside (opened of_record) [] ≡ namings v
  met v rest m = inside_met v rest inside of_record m.good (sym m.whole ∙ e)

  first_in : (name : List ℕ) (reading : Reading Value) → Meets value_form deepest (suc deepest) tokens reading → IsRead reading
      → IsFirst (names_met inside (opened of_record) []) name → IsFirst (namings (value_in reading)) name
  first_in name (read v rest) m is found = subst (λ (ns : List Naming). IsFirst ns name) (met v rest m) found
  first_in name (unexpected expected rest) m is found = absurd is
  first_in name (too_deep rest) m is found = absurd is

  none_in : (q : List ℕ) (reading : Reading Value) → Meets value_form deepest (suc deepest) tokens reading
      → NoneIs (names_met inside (opened of_record) []) → HasFieldTwice (value_in reading) q → ⊥
  none_in q (read v rest) m none twice = once_within v q (subst (λ (ns : List Naming). NoneIs ns) (met v rest m) none) twice
  none_in q (unexpected expected rest) m none twice = twice
  none_in q (too_deep rest) m none twice = twice

  unread_in : (q : List ℕ) (reading : Reading Value) → (IsRead reading → ⊥) → HasFieldTwice (value_in reading) q → ⊥
  unread_in q (read v rest) unread twice = unread tt
  unread_in q (unexpected expected rest) unread twice = twice
  unread_in q (too_deep rest) unread twice = twice

  pub first_of_place : (name : List ℕ) → IsRead (read_value deepest tokens) → IsFirst (names_met inside (opened of_record) []) name → IsFirstRepeatedAt (first_place_in tokens) name
  first_of_place name is found =
      subst (λ (p : Option Value). IsFirstRepeatedAt p name) (sym place_is) (first_in name (read_value deepest tokens) (value_meets deepest tokens) is found)

  pub none_of_place : (q : List ℕ) → NoneIs (names_met inside (opened of_record) []) → HasFieldTwiceAt (first_place_in tokens) q → ⊥
  none_of_place q none twice =
      none_in q (read_value deepest tokens) (value_meets deepest tokens) none (subst (λ (p : Option Value). HasFieldTwiceAt p q) place_is twice)

  pub unread_place : (q : List ℕ) → (IsRead (read_value deepest tokens) → ⊥) → HasFieldTwiceAt (first_place_in tokens) q → ⊥
  unread_place q unread twice = unread_in q (read_value deepest tokens) unread (subst (λ (p : Option Value). HasFieldTwiceAt p q) place_is twice)
