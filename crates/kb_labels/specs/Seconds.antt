-- The machine of the second words beside a first word, each with the normal form of what it is behind a word.
use Rattle.std.specs.Prelude.{◌≡◌, ℕ, ◌+◌, ◌<◌, min, Bool, not, ◌&&◌, nat_eq, List, [], ◌∷◌, ◌++◌, length, get_or, drop, All, Option, None, option_map, if◌then◌else◌}
use Rattle.std.specs.Cmp.Lexicographic.{pointwise}
use Rattle.kb_word.specs.Words.{Pair}
use Rattle.kb_word.specs.WordOrders.{Below}
use Rattle.kb_word.specs.WordOrderLaws.{word_orders}
use Rattle.kb_word.specs.Rewriting.{AreDecreasing, NormalForm}
use Rattle.kb_word.specs.declared.word_order.WordOrder.{WordOrder}
use Rattle.kb_rules.proofs.Exists.{normal_form_exists}
use Rattle.kb_fsa.specs.declared.alphabet.Alphabet.TheVariants.{Plain}
use Rattle.kb_fsa.specs.Table.{Table, Ascends, after, is_accepting, lookup, step}
use Rattle.kb_fsa.specs.PairSymbols.{pair_symbol}
use Rattle.kb_fsa.specs.Padding.{padded}
use Rattle.kb_fsa.specs.EndedWords.{is_symbol}
use Rattle.kb_explore.specs.Machine.{Machine}
use Rattle.kb_labels.specs.LivePart.{marked_state}
use Rattle.kb_labels.specs.declared.reading.Reading.{Reading}

-- the normal form of a word by decreasing rules
pub normal_form_of : (order : WordOrder) (rules : List Pair) → AreDecreasing (Below order) rules
    → List ℕ → List ℕ
normal_form_of order rules decreasing w =
    (normal_form_exists (word_orders order) rules decreasing w).0

-- where second words are read: beside the first word, between marked states from a state on, behind a word; and which
-- normal form isn't wanted
pub record Beside : Type 0 where
  pub n : ℕ
  pub table : Table
  pub marks : List Bool
  pub normal : List ℕ → List ℕ
  pub first : List ℕ
  pub state : ℕ
  pub word : List ℕ
  pub target : List ℕ

-- so many letters of the first word are read, with this normal form, in a state, if it is marked
abbrev pub reading_at : Beside → ℕ → List ℕ → ℕ → Option Reading
reading_at beside place word state =
    option_map (λ marked. record { place = place; state = marked; word = word })
    (marked_state beside.marks state)

-- where the reading goes on by a letter of the second word; past the first word's end that is padded
abbrev pub read_on : Beside → Reading → ℕ → Option Reading
read_on beside reading letter =
    reading_at beside (min (reading.place + 1) (length beside.first))
    (beside.normal (reading.word ++ letter ∷ []))
    (step beside.table reading.state
    (pair_symbol beside.n (get_or beside.first reading.place (beside.n + 1)) letter))

-- the rest of the first word leads from the reading to acceptance
abbrev pub ends : Beside → Reading → Bool
ends beside reading =
    is_accepting beside.table
    (after beside.table reading.state (padded beside.n (drop reading.place beside.first) []))

-- The machine reads second words over n generators. A word may end where the rest of the first one leads to acceptance
-- and the normal form isn't the unwanted one.
abbrev pub second_words : Beside → Machine Reading
second_words beside = record {
  start = reading_at beside 0 beside.word beside.state;
  follow = λ reading letter.
      if is_symbol (Plain beside.n) letter then read_on beside reading letter else None;
  accepts = λ reading.
      ends beside reading && not (pointwise nat_eq reading.word beside.target);
}

-- the moves by the letters before this one
pub record AreMovesBefore (beside : Beside) (reading : Reading) (letter : ℕ)
    (moves : List (ℕ × Reading)) : Type 0 where
  pub ascends : Ascends moves
  pub letters : All (λ move. (0 < move.0) × (move.0 < letter)) moves
  pub lookup : (other : ℕ) → 0 < other → other < letter
      → lookup moves other ≡ read_on beside reading other

pub is_normal_form : (order : WordOrder) (rules : List Pair)
    (decreasing : AreDecreasing (Below order) rules) (w : List ℕ)
    → NormalForm rules w (normal_form_of order rules decreasing w)
unfolding normal_form_of
is_normal_form order rules decreasing w =
    (normal_form_exists (word_orders order) rules decreasing w).1
