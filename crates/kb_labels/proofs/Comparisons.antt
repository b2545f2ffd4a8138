-- The first word apart, as more words are compared.
use Rattle.std.proofs.Common.{◌≡◌, ◌≢◌, ◌⊎◌, ℕ, List, Option, Some, None, sym, ap, ◌∙◌, subst, inl, inr, arith}
use Rattle.kb_word.specs.WordOrders.{Below}
use Rattle.kb_word.specs.WordOrderLaws.{word_orders}
use Rattle.kb_word.specs.declared.word_order.WordOrder.{WordOrder}
use Rattle.kb_labels.specs.Places.{label_at}
use Rattle.kb_labels.specs.declared.apart.Apart.{Apart}
use Rattle.kb_labels.specs.Comparing.{ComesBefore, earlier, less, IsFirstApart, Keeps, same, begun, taken, passed, Compares, nothing, one}
use Rattle.kb_labels.specs.Comparing.IsFirstApart.{none, some}

comes_not_itself : (order : WordOrder) (p q : ℕ) (word other : List ℕ) → p ≡ q → word ≡ other → ¬ ComesBefore order p word q other
comes_not_itself order p q word other places words (earlier h) = let no : ⊥ = omega arith in no
comes_not_itself order p q word other places words (less e h) =
    let P : List ℕ → Type 0 = λ w. Below order word w in
    (word_orders order).irreflexive word (subst P (sym words) h)

comes_through : (order : WordOrder) (p q r : ℕ) (u v w : List ℕ) → ComesBefore order p u q v → ComesBefore order q v r w → ComesBefore order p u r w
comes_through order p q r u v w (earlier low) (earlier high) = earlier (omega arith)
comes_through order p q r u v w (earlier low) (less alike high) = earlier (omega arith)
comes_through order p q r u v w (less alike low) (earlier high) = earlier (omega arith)
comes_through order p q r u v w (less alike low) (less also high) = less (omega arith) ((word_orders order).transitive u v w low high)

comes_as : (order : WordOrder) (p q r : ℕ) (u v w : List ℕ) → q ≡ r → v ≡ w → ComesBefore order p u q v → ComesBefore order p u r w
comes_as order p q r u v w places words before =
    let P : ℕ → Type 0 = λ s. ComesBefore order p u s v in
    let Q : List ℕ → Type 0 = λ s. ComesBefore order p u r s in
    subst Q words (subst P places before)

module _ (order : WordOrder) (labels : List (List ℕ)) (Before After : ℕ → List ℕ → Type 0)
    (more : (place : ℕ) (word : List ℕ) → Before place word → After place word) where
  -- words that are labels change nothing
  pub unchanged : (found : Option Apart) → IsFirstApart order labels Before found
      → ((place : ℕ) (word : List ℕ) → After place word → Before place word ⊎ (word ≡ label_at labels place))
      → IsFirstApart order labels After found
  unchanged found (none all) cover = none (λ place word after. elim (cover place word after) [ inl old ↦ all place word old | inr label ↦ label ])
  unchanged found (some {apart} own differs first) cover =
      some (more apart.place apart.word own) differs
      (λ place word after differ before. elim (cover place word after) [
        | inl old ↦ first place word old differ before
        | inr label ↦ differ label
      ])

  module _ (place : ℕ) (word : List ℕ) (own : After place word)
      (cover : (other : ℕ) (further : List ℕ) → After other further → Before other further ⊎ ((other ≡ place) × (further ≡ word))) where
    one_label : word ≡ label_at labels place → (other : ℕ) (further : List ℕ) → After other further
        → Before other further ⊎ (further ≡ label_at labels other)
    one_label label other further after = elim (cover other further after) [
      | inl old ↦ inl old
      | inr new ↦ inr (new.1 ∙ label ∙ ap (label_at labels) (sym new.0))
    ]

    new_first : (apart : Apart) → word ≢ label_at labels place → apart.place ≡ place → apart.word ≡ word
        → ((other : ℕ) (further : List ℕ) → Before other further → further ≢ label_at labels other
        → ¬ ComesBefore order other further place word)
        → IsFirstApart order labels After (Some apart)
    new_first apart differ at is first =
        let P : ℕ → Type 0 = λ p. After p apart.word in
        let Q : List ℕ → Type 0 = λ w. After place w in
        some (subst P (sym at) (subst Q (sym is) own)) (λ label. differ (sym is ∙ label ∙ ap (label_at labels) at))
        (λ other further after apart_too before.
        let come = comes_as order other apart.place place further apart.word word at is before in
        elim (cover other further after) [
          | inl old ↦ first other further old apart_too come
          | inr new ↦ comes_not_itself order other place further word new.0 new.1 come
        ])

    -- one more word is compared
    pub kept : (before after : Option Apart) → IsFirstApart order labels Before before
        → Keeps order (label_at labels place) place word before after → IsFirstApart order labels After after
    kept before after first (same label) = unchanged before first (one_label label)
    kept before after (none all) (begun {apart} differ at is) =
        new_first apart differ at is (λ other further old apart_too come. apart_too (all other further old))
    kept before after (some {apart = earlier_one} old differs first) (taken {before = former} {apart} differ come at is) =
        new_first apart differ at is (λ other further early apart_too before_new.
        first other further early apart_too (comes_through order other place former.place further word former.word before_new come))
    kept before after (some {apart = earlier_one} old differs first) (passed {apart} stays) =
        some (more apart.place apart.word old) differs
        (λ other further also apart_too come. elim (cover other further also) [
          | inl early ↦ first other further early apart_too come
          | inr new ↦
              let P : ℕ → Type 0 = λ p. ComesBefore order p further apart.place apart.word in
              let Q : List ℕ → Type 0 = λ w. ComesBefore order place w apart.place apart.word in
              stays (subst Q new.1 (subst P new.0 come))
        ])

-- more words are compared
pub compared : (order : WordOrder) (labels : List (List ℕ)) (Before Words After : ℕ → List ℕ → Type 0)
    → ((place : ℕ) (word : List ℕ) → Before place word → After place word)
    → ((place : ℕ) (word : List ℕ) → Words place word → After place word)
    → ((place : ℕ) (word : List ℕ) → After place word → Before place word ⊎ Words place word)
    → (before after : Option Apart) → IsFirstApart order labels Before before → Compares order labels Words before after
    → IsFirstApart order labels After after
compared order labels Before Words After old new cover before after first (nothing all is) =
    let P : Option Apart → Type 0 = λ found. IsFirstApart order labels After found in
    subst P (sym is) (unchanged order labels Before After old before first
    (λ place word also. elim (cover place word also) [ inl early ↦ inl early | inr late ↦ inr (all place word late) ]))
compared order labels Before Words After old new cover before after first (one {place} {word} own only keeps) =
    kept order labels Before After old place word (new place word own)
    (λ other further also. elim (cover other further also) [ inl early ↦ inl early | inr late ↦ inr (only other further late) ])
    before after first keeps

-- no words are apart
pub no_words : (order : WordOrder) (labels : List (List ℕ)) (Words : ℕ → List ℕ → Type 0)
    → ((place : ℕ) (word : List ℕ) → ¬ Words place word) → IsFirstApart order labels Words None
no_words order labels Words empty = none (λ place word is. absurd (empty place word is))
