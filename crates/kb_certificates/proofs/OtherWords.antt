-- Pairs whose second word isn't a given one.
use Rattle.std.proofs.Common.{◌≡◌, ◌↔◌, ℕ, suc, ◌+◌, ◌<◌, ◌≤◌, Bool, true, false, IsTrue, not, ◌&&◌, nat_eq, nat_lt, List, [], ◌∷◌, length, get_or, drop, drop-cons, if◌then◌else◌, refl, sym, ap, ◌∙◌, subst, inl, inr, arith}
use Rattle.std.proofs.lemmas.Bool.{and_from, and_left, and_parts, and_right, cases_eq, cases_lt, eq-eqb, eqb-true, false_from_ne_true, false≢true, le-ltb, lt-ltb, ne_eqb, not-true, not_from_false}
use Rattle.std.proofs.lemmas.List.{drop_all, length-drop}
use Rattle.std.proofs.lemmas.List.Elements.{All-head, All-tail}
use Rattle.kb_word.specs.Relations.{IsOver}
use Rattle.kb_fsa.specs.Table.{Table, after, is_accepting, step}
use Rattle.kb_fsa.specs.PairSymbols.{pair_symbol, pads_second, second_letter}
use Rattle.kb_fsa.specs.Padding.{padded}
use Rattle.kb_fsa.specs.Language.{Automaton, generators}
use Rattle.kb_fsa.proofs.PairSymbolLaws.{pads_second-letter, pads_second-padding, second_letter-pair_symbol}
use Rattle.kb_leastpair.specs.LeastPair.{IsAccepted, IsLeastWord}
use Rattle.kb_certificates.specs.Cascade.{followed}
use Rattle.kb_certificates.specs.declared.agreement.Agreement.{Agreement}
use Rattle.kb_certificates.specs.declared.agreement.Agreement.TheVariants.{Front, Apart}
use Rattle.kb_certificates.specs.First.{IsOther}
use Rattle.kb_certificates.specs.Followers.{agreed, is_whole, other_second}
use Rattle.kb_certificates.specs.LedPairs.{IsLedPair}

-- how a word agrees with the given one, after what agrees so far
abbrev read : List ℕ → Agreement → List ℕ → Agreement
read word agreement [] = agreement
read word agreement (letter ∷ rest) = read word (agreed word agreement letter) rest

apart_stays : (word rest : List ℕ) → read word Apart rest ≡ Apart
apart_stays word [] = refl
apart_stays word (letter ∷ rest) = apart_stays word rest

-- what has come apart is not the word
never_whole : (word rest : List ℕ) → ¬ IsTrue (is_whole word (read word Apart rest))
never_whole word rest whole = false≢true (sym (ap (is_whole word) (apart_stays word rest)) ∙ whole)

-- where the front of a word is read, the rest makes it whole exactly where it is the rest of the word
whole_is_rest : (word : List ℕ) (place : ℕ) (rest : List ℕ) → place ≤ length word → IsTrue (is_whole word (read word (Front place) rest)) ↔ (rest ≡ drop place word)
whole_is_rest word place [] within = (
  λ whole. sym (drop_all place word (let end = eqb-true place (length word) whole in omega arith)),
  λ is. eq-eqb place (length word) (let long = length-drop place word in omega (arith, ap length is)),
)
whole_is_rest word place (letter ∷ rest) within = elim (cases_lt place (length word)) [
  | inl low ↦
      let here = get_or word place 0 in
      let split : drop place word ≡ here ∷ drop (place + 1) word =
      drop-cons word place 0 low ∙ ap (λ p. here ∷ drop p word) (let next : suc place ≡ place + 1 = omega arith in next) in
      elim (cases_eq here letter) [
        | inl same ↦
            let test : (nat_lt place (length word) && nat_eq here letter) ≡ true =
            and_from (nat_lt place (length word)) (nat_eq here letter) (lt-ltb place (length word) low) (eq-eqb here letter same) in
            let P : Bool → Type 0 = λ b. IsTrue (is_whole word (read word (if b then Front (place + 1) else Apart) rest)) in
            let more = whole_is_rest word (place + 1) rest (omega arith) in (
              λ whole. ap (λ w. letter ∷ w) (more.0 (subst P test whole)) ∙ ap (λ x. x ∷ drop (place + 1) word) (sym same) ∙ sym split,
              λ is. subst P (sym test) (more.1 (ap (drop 1) (is ∙ split))),
            )
        | inr other ↦
            let test : (nat_lt place (length word) && nat_eq here letter) ≡ false =
            and_right (nat_lt place (length word)) (nat_eq here letter) (ne_eqb here letter other) in
            let P : Bool → Type 0 = λ b. IsTrue (is_whole word (read word (if b then Front (place + 1) else Apart) rest)) in (
              λ whole. absurd (never_whole word rest (subst P test whole)),
              λ is. absurd (other (sym (ap (λ w. get_or w 0 0) (is ∙ split)))),
            )
      ]
  | inr past ↦
      let test : (nat_lt place (length word) && nat_eq (get_or word place 0) letter) ≡ false =
      and_left (nat_lt place (length word)) (nat_eq (get_or word place 0) letter) (le-ltb place (length word) past) in
      let P : Bool → Type 0 = λ b. IsTrue (is_whole word (read word (if b then Front (place + 1) else Apart) rest)) in (
        λ whole. absurd (never_whole word rest (subst P test whole)),
        λ is. absurd (let no : ⊥ = omega (arith, ap length (is ∙ drop_all place word past)) in no),
      )
]

-- along the text of a pair its second word is read
module _ (n : ℕ) (table : Table) (word : List ℕ) where
  after_symbol : Agreement → ℕ → Agreement
  after_symbol agreement symbol = if pads_second n symbol then agreement else agreed word agreement (second_letter n symbol)

  padding_kept : (agreement : Agreement) (x : ℕ) → after_symbol agreement (pair_symbol n x (n + 1)) ≡ agreement
  unfolding after_symbol
  padding_kept agreement x =
      let symbol = pair_symbol n x (n + 1) in
      ap (λ (b : Bool). if b then agreement else agreed word agreement (second_letter n symbol)) (pads_second-padding n symbol x (n + 1) refl refl)

  letter_read : (agreement : Agreement) (x y : ℕ) → (0 < y) × (y ≤ n) → after_symbol agreement (pair_symbol n x y) ≡ agreed word agreement y
  unfolding after_symbol
  letter_read agreement x y letter =
      let symbol = pair_symbol n x y in
      ap (λ (b : Bool). if b then agreement else agreed word agreement (second_letter n symbol)) (pads_second-letter n symbol x y refl letter)
      ∙ ap (agreed word agreement) (second_letter-pair_symbol n x y (letter.0, omega (arith, letter.1)))

  abbrev along : ℕ → Agreement → List ℕ → Agreement
  along state agreement text = followed table (other_second n table word) state agreement text

  second_read : (u v : List ℕ) → IsOver n v → (state : ℕ) (agreement : Agreement) → along state agreement (padded n u v) ≡ read word agreement v
  unfolding after_symbol
  second_read [] [] over state agreement = refl
  second_read (x ∷ u) [] over state agreement =
      let symbol = pair_symbol n x (n + 1) in
      ap (λ a. along (step table state symbol) a (padded n u [])) (padding_kept agreement x)
      ∙ second_read u [] over (step table state symbol) agreement
  second_read [] (y ∷ v) over state agreement =
      let P : ℕ → Type 0 = λ z. (0 < z) × (z ≤ n) in
      let symbol = pair_symbol n (n + 1) y in
      ap (λ a. along (step table state symbol) a (padded n [] v)) (letter_read agreement (n + 1) y (All-head P y v over))
      ∙ second_read [] v (All-tail P y v over) (step table state symbol) (agreed word agreement y)
  second_read (x ∷ u) (y ∷ v) over state agreement =
      let P : ℕ → Type 0 = λ z. (0 < z) × (z ≤ n) in
      let symbol = pair_symbol n x y in
      ap (λ a. along (step table state symbol) a (padded n u v)) (letter_read agreement x y (All-head P y v over))
      ∙ second_read u v (All-tail P y v over) (step table state symbol) (agreed word agreement y)

-- the pairs that are accepted so are those whose second word is another
module _ (pairs : Automaton) (m : ℕ) (is_n : m ≡ generators pairs.alphabet) (word : List ℕ) where
  abbrev n : ℕ
  n = generators pairs.alphabet

  whole_is : (u v : List ℕ) → IsOver n v
      → IsTrue (is_whole word (along n pairs.table word pairs.table.initial (Front 0) (padded n u v))) ↔ (v ≡ word)
  whole_is u v over =
      let P : Agreement → Type 0 = λ a. IsTrue (is_whole word a) ↔ (v ≡ word) in
      subst P (sym (second_read n pairs.table word u v over pairs.table.initial (Front 0))) (whole_is_rest word 0 v (omega arith))

  pub led_other : (u v : List ℕ) → IsLedPair pairs (other_second m pairs.table word) u v ↔ IsOther pairs u word v
  led_other u v =
      let P : ℕ → Type 0 = λ k. IsLedPair pairs (other_second k pairs.table word) u v ↔ IsOther pairs u word v in
      subst P (sym is_n) (
        λ led.
            let final = along n pairs.table word pairs.table.initial (Front 0) (padded n u v) in
            let parts = and_parts (is_accepting pairs.table (after pairs.table pairs.table.initial (padded n u v))) (not (is_whole word final)) led.led in record {
              accepted = record { first_over = led.first_over; second_over = led.second_over; accepted = parts.0 };
              different = λ same. false≢true (sym (not-true (is_whole word final) parts.1) ∙ (whole_is u v led.second_over).1 (sym same));
            },
        λ other.
            let pair = other.accepted in
            let final = along n pairs.table word pairs.table.initial (Front 0) (padded n u v) in record {
              first_over = pair.first_over;
              second_over = pair.second_over;
              led = and_from (is_accepting pairs.table (after pairs.table pairs.table.initial (padded n u v))) (not (is_whole word final)) pair.accepted
                  (not_from_false (is_whole word final) (false_from_ne_true (is_whole word final) (λ whole. other.different (sym ((whole_is u v pair.second_over).0 whole)))));
            },
      )

  pub least_other_word : (product : Automaton) → ((u v : List ℕ) → IsAccepted product u v ↔ IsLedPair pairs (other_second m pairs.table word) u v)
      → (first other : List ℕ) → IsLeastWord (IsAccepted product first) other → IsLeastWord (IsOther pairs first word) other
  least_other_word product accepts first other least = record {
    holds = (led_other first other).0 ((accepts first other).0 least.holds);
    least = λ w has. least.least w ((accepts first w).1 ((led_other first w).1 has));
  }

  pub no_other_word : (product : Automaton) → ((u v : List ℕ) → IsAccepted product u v ↔ IsLedPair pairs (other_second m pairs.table word) u v)
      → (first : List ℕ) → ((other : List ℕ) → ¬ IsAccepted product first other) → (other : List ℕ) → ¬ IsOther pairs first word other
  no_other_word product accepts first none other has = none other ((accepts first other).1 ((led_other first other).1 has))
