-- The least words of facts that say the same.
use Rattle.std.proofs.Common.{◌↔◌, ℕ, List, [], ◌∷◌, arith}
use Rattle.kb_word.specs.Words.{Less}
use Rattle.kb_word.specs.Words.Less.{shorter, earlier}
use Rattle.kb_fsa.specs.Table.{Table}
use Rattle.kb_leastpair.specs.LeastPair.{IsLeastWord, IsLeastPair}
use Rattle.kb_certificates.specs.Cascade.{Follower, AcceptsLed, IsLeastLed}

pub least_word_led : {X : Type 0} (table : Table) (follower : Follower X) (Holds : List ℕ → Type 0)
    → ((word : List ℕ) → AcceptsLed table follower word ↔ Holds word) → (word : List ℕ) → IsLeastLed table follower word
    → IsLeastWord Holds word
least_word_led table follower Holds same word least = record {
  holds = (same word).0 least.accepted;
  least = λ other holds. least.least other ((same other).1 holds);
}

pub least_pair_same : (Holds Means : List ℕ → List ℕ → Type 0) → ((u v : List ℕ) → Holds u v ↔ Means u v) → (u v : List ℕ)
    → IsLeastPair Holds u v → IsLeastPair Means u v
least_pair_same Holds Means same u v least = record {
  holds = (same u v).0 least.holds;
  least_first = λ first second means. least.least_first first second ((same first second).1 means);
  least_second = λ second means. least.least_second second ((same u second).1 means);
}

-- no word is less than the empty one
pub none_below : (word : List ℕ) → ¬ Less word []
none_below word (shorter less) = let no : ⊥ = omega arith in no
none_below [] (earlier long before) = before
none_below (x ∷ word) (earlier long before) = before
