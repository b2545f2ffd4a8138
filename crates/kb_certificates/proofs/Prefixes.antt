-- Words with a prefix that isn't accepted.
use Rattle.std.proofs.Common.{◌≡◌, ◌↔◌, ◌⊎◌, ℕ, Bool, true, false, not, ◌||◌, List, [], ◌∷◌, ◌++◌, refl, sym, ap, ◌∙◌, subst, inl, inr}
use Rattle.std.proofs.lemmas.Bool.{and_from, and_parts, or_cases, or_right, not-true, not_from_false, false_from_ne_true, true≢false}
use Rattle.std.proofs.lemmas.List.{append-nil}
use Rattle.kb_word.specs.Words.{Pair as Sides}
use Rattle.kb_word.specs.declared.word_order.WordOrder.{WordOrder}
use Rattle.kb_fsa.specs.declared.alphabet.Alphabet.TheVariants.{Plain}
use Rattle.kb_fsa.specs.Table.{Table, AcceptsFrom, is_accepting, state_after, step}
use Rattle.kb_fsa.specs.Language.{Automaton, IsAutomaton, AcceptsText, generators}
use Rattle.kb_leastpair.specs.LeastPair.{IsLeastWord}
use Rattle.kb_structure.specs.Structure.{Structure, Accepts}
use Rattle.kb_structure.specs.StructureOf.{structure_of}
use Rattle.kb_structure.specs.Certificates.{PrefixNotAccepted}
use Rattle.kb_structure.specs.Certificates.PrefixNotAccepted.{empty_word, prefix}
use Rattle.kb_structure.proofs.OfAutomata.{accepts_word}
use Rattle.kb_certificates.specs.Cascade.{AcceptsLed, IsLeastLed, followed}
use Rattle.kb_certificates.specs.Followers.{rejected_prefix}
use Rattle.kb_certificates.proofs.Leasts.{least_word_led, none_below}

-- from the state a prefix of the text isn't accepted
pub record HasRejected (table : Table) (state : ℕ) (text : List ℕ) : Type 0 where
  pub front : List ℕ
  pub rest : List ℕ
  pub whole : text ≡ front ++ rest
  pub rejected : ¬ AcceptsFrom table state front

module _ (table : Table) where
  abbrev along : ℕ → Bool → List ℕ → Bool
  along state rejected text = followed table (rejected_prefix table) state rejected text

  rejected_along : (state : ℕ) (rejected : Bool) (text : List ℕ) → along state rejected text ≡ true → (rejected ≡ true) ⊎ HasRejected table state text
  rejected_along state rejected [] is = inl is
  rejected_along state rejected (x ∷ text) is =
      elim (rejected_along (step table state x) (rejected || not (is_accepting table state)) text is) [
        | inl now ↦ elim (or_cases rejected (not (is_accepting table state)) now) [
          | inl before ↦ inl before
          | inr here ↦ inr (record {
            front = [];
            rest = x ∷ text;
            whole = refl;
            rejected = λ accepts. true≢false (sym accepts ∙ not-true (is_accepting table state) here);
          })
        ]
        | inr later ↦ inr (record {
          front = x ∷ later.front;
          rest = later.rest;
          whole = ap (λ rest. x ∷ rest) later.whole;
          rejected = later.rejected;
        })
      ]

  stays : (state : ℕ) (text : List ℕ) → along state true text ≡ true
  stays state [] = refl
  stays state (x ∷ text) = stays (step table state x) text

  comes : (state : ℕ) (rejected : Bool) (front : List ℕ) (x : ℕ) (rest : List ℕ) → ¬ AcceptsFrom table state front
      → along state rejected (front ++ x ∷ rest) ≡ true
  comes state rejected [] x rest refused =
      let P : Bool → Type 0 = λ b. along (step table state x) b rest ≡ true in
      subst P (sym (or_right rejected (not (is_accepting table state)) (not_from_false (is_accepting table state) (false_from_ne_true (is_accepting table state) refused))))
      (stays (step table state x) rest)
  comes state rejected (y ∷ front) x rest refused =
      comes (step table state y) (rejected || not (is_accepting table state)) front x rest refused

  -- the word is accepted with its follower exactly where it is accepted, and a prefix isn't
  pub led_of_rejected : (text front rest : List ℕ) → text ≡ front ++ rest → AcceptsFrom table table.initial text
      → ¬ AcceptsFrom table table.initial front → AcceptsLed table (rejected_prefix table) text
  led_of_rejected text front [] whole accepts refused =
      let P : List ℕ → Type 0 = λ w. AcceptsFrom table table.initial w in
      absurd (refused (subst P (whole ∙ append-nil front) accepts))
  led_of_rejected text front (x ∷ rest) whole accepts refused =
      let P : List ℕ → Type 0 = λ w. along table.initial false w ≡ true in
      and_from (is_accepting table (state_after table text)) (along table.initial false text) accepts
      (subst P (sym whole) (comes table.initial false front x rest refused))

  pub rejected_of_led : (text : List ℕ) → AcceptsLed table (rejected_prefix table) text
      → AcceptsFrom table table.initial text × HasRejected table table.initial text
  rejected_of_led text led =
      let both = and_parts (is_accepting table (state_after table text)) (along table.initial false text) led in
      elim (rejected_along table.initial false text both.1) [
        | inl never ↦ absurd (true≢false (sym never))
        | inr has ↦ (both.0, has)
      ]

module _ (order : WordOrder) (relations : List Sides) (acceptor : Automaton) (multipliers : List Automaton)
    (plain : acceptor.alphabet ≡ Plain (generators acceptor.alphabet)) (is : IsAutomaton acceptor) where
  abbrev structure : Structure
  structure = structure_of order relations acceptor multipliers

  abbrev means : (w : List ℕ) → Accepts structure w ↔ AcceptsText acceptor w
  means w = accepts_word order relations acceptor multipliers plain is w

  -- where the empty word isn't accepted, it is the least certificate
  pub least_empty : ¬ AcceptsText acceptor [] → IsLeastWord (PrefixNotAccepted structure) []
  least_empty refused = record {
    holds = empty_word refl (λ accepts. refused ((means []).0 accepts));
    least = λ other holds. none_below other;
  }

  led_certificate : AcceptsText acceptor [] → (u : List ℕ) → AcceptsLed acceptor.table (rejected_prefix acceptor.table) u ↔ PrefixNotAccepted structure u
  led_certificate empty u = (forth, back)
    where
      forth : AcceptsLed acceptor.table (rejected_prefix acceptor.table) u → PrefixNotAccepted structure u
      forth led =
          let found = rejected_of_led acceptor.table u led in
          prefix found.1.front found.1.rest found.1.whole ((means u).1 found.0) (λ accepts. found.1.rejected ((means found.1.front).0 accepts))

      back : PrefixNotAccepted structure u → AcceptsLed acceptor.table (rejected_prefix acceptor.table) u
      back (empty_word is_empty refused) =
          let P : List ℕ → Type 0 = λ w. AcceptsText acceptor w in
          absurd (refused ((means u).1 (subst P (sym is_empty) empty)))
      back (prefix front rest whole accepts refused) =
          led_of_rejected acceptor.table u front rest whole ((means u).0 accepts) (λ accepts. refused ((means front).1 accepts))

  pub least_prefix : AcceptsText acceptor [] → (u : List ℕ) → IsLeastLed acceptor.table (rejected_prefix acceptor.table) u
      → IsLeastWord (PrefixNotAccepted structure) u
  least_prefix empty = least_word_led acceptor.table (rejected_prefix acceptor.table) (PrefixNotAccepted structure) (led_certificate empty)

  pub no_prefix : AcceptsText acceptor [] → ((text : List ℕ) → ¬ AcceptsLed acceptor.table (rejected_prefix acceptor.table) text)
      → (u : List ℕ) → ¬ PrefixNotAccepted structure u
  no_prefix empty none u certificate = none u ((led_certificate empty u).1 certificate)
