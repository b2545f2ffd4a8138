-- Groups, with rules by which their words are reduced.
use Rattle.std.specs.Prelude.{◌≡◌, ℕ, ◌<◌, ◌≤◌, List, Option, Some}
use Rattle.kb_word.specs.Words.{Pair, OneOf}
use Rattle.kb_word.specs.Relations.{IsOver, inverse_letter}
use Rattle.kb_word.specs.declared.word_order.WordOrder.{WordOrder}
use Rattle.kb_word.specs.declared.presentation.Presentation.{Presentation}

-- each of the letters 1 to n has an inverse, as the generators of a group have
abbrev pub EachInverts : ℕ → List (Option ℕ) → Type 0
EachInverts n inverses = (x : ℕ) → 0 < x → x ≤ n → (y : ℕ) × (inverse_letter inverses x ≡ Some y)

-- no letter's inverse is another than one of the letters 1 to n
abbrev pub InvertWithin : ℕ → List (Option ℕ) → Type 0
InvertWithin n inverses = (x y : ℕ) → inverse_letter inverses x ≡ Some y → (0 < y) × (y ≤ n)

-- both sides of each rule are words over n letters
abbrev pub AreRulesOver : ℕ → List Pair → Type 0
AreRulesOver n rules = (rule : Pair) → OneOf rules rule → IsOver n rule.0 × IsOver n rule.1

-- a group as differences see it: how many generators it has, the order of words, the generators' inverses, and rules
pub record Group : Type 0 where
  pub n : ℕ
  pub order : WordOrder
  pub inverses : List (Option ℕ)
  pub rules : List Pair

-- the group that is presented, with these rules
abbrev pub group_of : Presentation → List Pair → Group
group_of presentation rules =
    record {
      n = presentation.n;
      order = presentation.order;
      inverses = presentation.inv;
      rules =
          rules;
    }
