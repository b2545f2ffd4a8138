-- Pairs of words that lead a multiplier and its follower to acceptance, and pairs of the structure.
use Rattle.std.proofs.Common.{◌≡◌, ◌≢◌, ◌↔◌, ℕ, ◌^◌, ◌<◌, List, sym, ap, subst, ◌∙◌}
use Rattle.std.specs.List.{All}
use Rattle.std.proofs.lemmas.Bool.{false≢true}
use Rattle.kb_word.specs.Relations.{IsOver}
use Rattle.kb_fsa.specs.Padding.{padded}
use Rattle.kb_fsa.specs.declared.alphabet.Alphabet.{Alphabet}
use Rattle.kb_fsa.specs.declared.alphabet.Alphabet.TheVariants.{Plain}
use Rattle.kb_fsa.specs.Table.{Table, state_after}
use Rattle.kb_fsa.specs.Language.{Automaton, IsAutomaton, IsTextOf, AcceptsText, generators}
use Rattle.kb_leastpair.specs.LeastPair.{IsAccepted, IsLeastPair}
use Rattle.kb_leastpair.proofs.Pairs.{letters_fit}
use Rattle.kb_certificates.specs.Cascade.{AcceptsLed, Follower, followed}
use Rattle.kb_certificates.specs.LedPairs.{IsLedPair}
use Rattle.kb_certificates.proofs.Leasts.{least_pair_same}

module _ {X : Type 0} (pairs product : Automaton) (follower : Follower X) (same : product.alphabet ≡ pairs.alphabet)
    (language : (text : List ℕ) → AcceptsText product text ↔ AcceptsLed pairs.table follower text) where
  alike : generators product.alphabet ≡ generators pairs.alphabet
  alike = ap generators same

  -- the product accepts the pairs that lead both to acceptance
  pub product_pair : (u v : List ℕ) → IsAccepted product u v ↔ IsLedPair pairs follower u v
  product_pair u v = (
    λ accepted.
        let P : ℕ → List ℕ → Type 0 = λ k w. IsOver k w in
        let Q : ℕ → Type 0 = λ k. AcceptsLed pairs.table follower (padded k u v) in record {
          first_over = subst (λ k. P k u) alike accepted.first_over;
          second_over = subst (λ k. P k v) alike accepted.second_over;
          led = subst Q alike ((language (padded (generators product.alphabet) u v)).0 accepted.accepted);
        },
    λ led.
        let P : ℕ → List ℕ → Type 0 = λ k w. IsOver k w in
        let Q : ℕ → Type 0 = λ k. AcceptsText product (padded k u v) in record {
          first_over = subst (λ k. P k u) (sym alike) led.first_over;
          second_over = subst (λ k. P k v) (sym alike) led.second_over;
          accepted = subst Q (sym alike) ((language (padded (generators pairs.alphabet) u v)).1 led.led);
        },
  )

  pub least_product : (u v : List ℕ) → IsLeastPair (IsAccepted product) u v → IsLeastPair (IsLedPair pairs follower) u v
  least_product = least_pair_same (IsAccepted product) (IsLedPair pairs follower) product_pair

-- a text that leads both to acceptance leads the leader somewhere
led_leads : {X : Type 0} (table : Table) (follower : Follower X) (text : List ℕ) → AcceptsLed table follower text → state_after table text ≢ 0
led_leads table follower text led none =
    let state = followed table follower table.initial follower.start text in
    false≢true (sym (ap (λ s. follower.accepts s state) none ∙ follower.rejects_nowhere state) ∙ led)

-- the letters of a word that leads an automaton of words and its follower to acceptance are numbers of 16 bits
pub led_fits : {X : Type 0} (words : Automaton) → words.alphabet ≡ Plain (generators words.alphabet) → IsAutomaton words
    → (follower : Follower X) (word : List ℕ) → AcceptsLed words.table follower word → All (λ letter. letter < 2 ^ 16) word
led_fits words plain is follower word led =
    let P : Alphabet → Type 0 = λ alphabet. IsTextOf alphabet word in
    letters_fit (generators words.alphabet) word is.generators (subst P plain (is.texts word (led_leads words.table follower word led)))
