-- Accepted extensions to which a multiplier doesn't lead.
use Rattle.std.proofs.Common.{◌≡◌, ◌↔◌, ℕ, ◌+◌, ◌<◌, ◌≤◌, Bool, not, List, [], ◌∷◌, ◌++◌, Some, if◌then◌else◌, refl, sym, ap, ◌∙◌, subst}
use Rattle.std.proofs.lemmas.Bool.{and_from, and_parts, not-true, not_from_false, false_from_ne_true, true≢false}
use Rattle.kb_word.specs.Words.{Pair as Sides}
use Rattle.kb_word.specs.Relations.{IsOver}
use Rattle.kb_word.specs.declared.word_order.WordOrder.{WordOrder}
use Rattle.kb_fsa.specs.Table.{Table, after, is_accepting, state_after, step}
use Rattle.kb_fsa.specs.PairSymbols.{pair_symbol}
use Rattle.kb_fsa.specs.Padding.{padded}
use Rattle.kb_fsa.specs.Language.{Automaton, IsAutomaton, AcceptsText, generators}
use Rattle.kb_fsa.proofs.Lookups.{after-append}
use Rattle.kb_leastpair.specs.LeastPair.{IsLeastWord}
use Rattle.kb_leastpair.proofs.SecondMoves.{letter_true}
use Rattle.kb_structure.specs.Structure.{Structure, Accepts}
use Rattle.kb_structure.specs.StructureOf.{FitTogether, multiplier_of, structure_of}
use Rattle.kb_structure.specs.Certificates.{MissingExtension}
use Rattle.kb_structure.proofs.Letters.{over_first, over_front, over_later}
use Rattle.kb_structure.proofs.OfAutomata.{accepts_word, multiplied_pair, pair_multiplied}
use Rattle.kb_certificates.specs.Cascade.{AcceptsLed, IsLeastLed, followed}
use Rattle.kb_certificates.specs.Followers.{own_pair}
use Rattle.kb_certificates.proofs.Leasts.{least_word_led}

-- along a word the follower goes along the pair of the word with itself
own_run : (n : ℕ) (acceptor multiplier : Table) (x state pair : ℕ) (word : List ℕ) → IsOver n word
    → followed acceptor (own_pair n acceptor multiplier x) state pair word ≡ after multiplier pair (padded n word word)
own_run n acceptor multiplier x state pair [] over = refl
own_run n acceptor multiplier x state pair (a ∷ word) over =
    let next : Bool → ℕ = λ b. if b then step multiplier pair (pair_symbol n a a) else 0 in
    ap (λ (b : Bool). followed acceptor (own_pair n acceptor multiplier x) (step acceptor state a) (next b) word)
    (letter_true n a (over_first n a word over))
    ∙ own_run n acceptor multiplier x (step acceptor state a) (step multiplier pair (pair_symbol n a a)) word (over_later n a word over)

-- the text of a word with its extension
extended : (n x : ℕ) (word : List ℕ) → padded n word (word ++ x ∷ []) ≡ padded n word word ++ pair_symbol n (n + 1) x ∷ []
extended n x [] = refl
extended n x (a ∷ word) = ap (λ rest. pair_symbol n a a ∷ rest) (extended n x word)

module _ (order : WordOrder) (relations : List Sides) (acceptor : Automaton) (multipliers : List Automaton)
    (fit : FitTogether acceptor multipliers) (is : IsAutomaton acceptor) (x : ℕ) (multiplier : Automaton)
    (at : multiplier_of multipliers x ≡ Some multiplier) where
  abbrev n : ℕ
  n = generators acceptor.alphabet

  abbrev structure : Structure
  structure = structure_of order relations acceptor multipliers

  abbrev means : (w : List ℕ) → Accepts structure w ↔ AcceptsText acceptor w
  means w = accepts_word order relations acceptor multipliers fit.words is w

  same_generators : generators multiplier.alphabet ≡ n
  same_generators = ap generators (fit.pairs x multiplier at)

  abbrev Led : List ℕ → Type 0
  Led word = AcceptsLed acceptor.table (own_pair n acceptor.table multiplier.table x) word

  abbrev pair_after : List ℕ → ℕ
  pair_after word = followed acceptor.table (own_pair n acceptor.table multiplier.table x) acceptor.table.initial multiplier.table.initial word

  -- the acceptor's answer to the extension, and the multiplier's to the pair
  abbrev extends : List ℕ → Bool
  extends word = is_accepting acceptor.table (step acceptor.table (state_after acceptor.table word) x)

  abbrev multiplies : List ℕ → Bool
  multiplies word = is_accepting multiplier.table (step multiplier.table (pair_after word) (pair_symbol n (n + 1) x))

  extends_is : (word : List ℕ) → is_accepting acceptor.table (state_after acceptor.table (word ++ x ∷ [])) ≡ extends word
  extends_is word = ap (is_accepting acceptor.table) (after-append acceptor.table acceptor.table.initial word (x ∷ []))

  multiplies_is : (word : List ℕ) → IsOver n word
      → is_accepting multiplier.table (state_after multiplier.table (padded (generators multiplier.alphabet) word (word ++ x ∷ []))) ≡ multiplies word
  multiplies_is word over =
      ap (λ k. is_accepting multiplier.table (state_after multiplier.table (padded k word (word ++ x ∷ [])))) same_generators
      ∙ ap (λ text. is_accepting multiplier.table (state_after multiplier.table text)) (extended n x word)
      ∙ ap (is_accepting multiplier.table) (after-append multiplier.table multiplier.table.initial (padded n word word) (pair_symbol n (n + 1) x ∷ []))
      ∙ ap (λ state. is_accepting multiplier.table (step multiplier.table state (pair_symbol n (n + 1) x)))
      (sym (own_run n acceptor.table multiplier.table x acceptor.table.initial multiplier.table.initial word over))

  pub led_missing : (0 < x) × (x ≤ n) → (word : List ℕ) → Led word ↔ MissingExtension structure x word
  led_missing letter word = (forth, back)
    where
      forth : Led word → MissingExtension structure x word
      forth led =
          let both = and_parts (extends word) (not (multiplies word)) led in
          let accepted = (means (word ++ x ∷ [])).1 (extends_is word ∙ both.0) in
          let over = over_front n word (x ∷ []) accepted.letters in record {
            generator = letter;
            accepted = accepted;
            missing = λ multiplied.
                let yes = multiplied_pair order relations acceptor multipliers x multiplier at word (word ++ x ∷ []) multiplied in
                true≢false (sym (sym (multiplies_is word over) ∙ yes) ∙ not-true (multiplies word) both.1);
          }

      back : MissingExtension structure x word → Led word
      back certificate =
          let letters = certificate.accepted.letters in
          let over = over_front n word (x ∷ []) letters in
          and_from (extends word) (not (multiplies word)) (sym (extends_is word) ∙ (means (word ++ x ∷ [])).0 certificate.accepted)
          (not_from_false (multiplies word) (false_from_ne_true (multiplies word)
          (λ yes. certificate.missing (pair_multiplied order relations acceptor multipliers x multiplier at word (word ++ x ∷ []) over letters
          (multiplies_is word over ∙ yes)))))

  -- the follower over as many letters as the acceptor has
  module _ (m : ℕ) (is_n : m ≡ n) where
    abbrev LedBy : List ℕ → Type 0
    LedBy word = AcceptsLed acceptor.table (own_pair m acceptor.table multiplier.table x) word

    led_by_missing : (0 < x) × (x ≤ n) → (word : List ℕ) → LedBy word ↔ MissingExtension structure x word
    led_by_missing letter word =
        let P : ℕ → Type 0 = λ k. AcceptsLed acceptor.table (own_pair k acceptor.table multiplier.table x) word ↔ MissingExtension structure x word in
        subst P (sym is_n) (led_missing letter word)

    pub least_missing : (0 < x) × (x ≤ n) → (word : List ℕ) → IsLeastLed acceptor.table (own_pair m acceptor.table multiplier.table x) word
        → IsLeastWord (MissingExtension structure x) word
    least_missing letter =
        least_word_led acceptor.table (own_pair m acceptor.table multiplier.table x) (MissingExtension structure x) (led_by_missing letter)

    pub none_missing : ((word : List ℕ) → ¬ LedBy word) → (word : List ℕ) → ¬ MissingExtension structure x word
    none_missing none word certificate = none word ((led_by_missing certificate.generator word).1 certificate)
