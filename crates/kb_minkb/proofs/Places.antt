-- The places of words, letter by letter, and the machine that leads to them.
use Rattle.std.proofs.Common.{◌≡◌, ◌≢◌, ◌↔◌, ℕ, zero, suc, ◌-◌, ◌<◌, ◌≤◌, Bool, true, false, nat_lt, nat_le, List, [], ◌∷◌, ◌++◌, length, take, drop, Option, Some, None, if◌then◌else◌, refl, sym, ap, ap₂, ◌∙◌, subst, arith, append_assoc}
use Rattle.std.proofs.lemmas.Bool.{true≢false, and_parts, and_from, and_left, and_right, le-leb, lt-ltb, lt-leb, ltb-true, leb-true, cond-true, cond-false}
use Rattle.std.proofs.lemmas.List.{append-nil, take_at, length_push}
use Rattle.std.proofs.lemmas.List.Elements.{All-nil, All-push}
use Rattle.kb_word.specs.Relations.{IsOver}
use Rattle.kb_fsa.specs.declared.alphabet.Alphabet.{Alphabet}
use Rattle.kb_fsa.specs.declared.alphabet.Alphabet.TheVariants.{Plain}
use Rattle.kb_fsa.specs.Table.{Table, step, state_after}
use Rattle.kb_fsa.specs.EndedWords.{is_symbol}
use Rattle.kb_fsa.specs.Language.{Automaton, IsAutomaton, IsTextOf, generators}
use Rattle.kb_fsa.proofs.Lookups.{after-append}
use Rattle.kb_explore.specs.Machine.{lead, leads}
use Rattle.kb_structure.proofs.Letters.{over_first, over_rest}
use Rattle.kb_minkb.specs.declared.place.LeftPlace.{LeftPlace}
use Rattle.kb_minkb.specs.declared.place.LeftPlace.TheVariants.{Start, Inside, End}
use Rattle.kb_minkb.specs.LeftSides.{IsJustOutside, LeadsSomewhere, HasPlace}
use Rattle.kb_minkb.specs.LeftSides.HasPlace.{at_start, inside, at_end}
use Rattle.kb_minkb.specs.LeftMachine.{place_of, next_place, left_sides}

-- ---- words with a letter more

pub not_nil : (w : List ℕ) (x : ℕ) → w ++ x ∷ [] ≢ []
not_nil w x same = let no : ⊥ = omega (arith, ap length same, length_push w x) in no

pub without_last : (w : List ℕ) (x : ℕ) → take (length (w ++ x ∷ []) - 1) (w ++ x ∷ []) ≡ w
without_last w x = take_at w (x ∷ []) (length (w ++ x ∷ []) - 1) (omega (arith, length_push w x))

pub without_first : (w : List ℕ) (x : ℕ) → w ≢ [] → drop 1 (w ++ x ∷ []) ≡ drop 1 w ++ x ∷ []
without_first [] x some = absurd (some refl)
without_first (y ∷ w) x some = refl

pub state_push : (table : Table) (w : List ℕ) (x : ℕ) → state_after table (w ++ x ∷ []) ≡ step table (state_after table w) x
state_push table w x = after-append table table.initial w (x ∷ [])

-- what leads on from a word is led there by the word
pub leads_before : (table : Table) (w : List ℕ) (x : ℕ) → state_after table (w ++ x ∷ []) ≢ 0 → state_after table w ≢ 0
leads_before table w x some none = some (state_push table w x ∙ ap (λ s. step table s x) none)

behind_push : (table : Table) (w : List ℕ) (x : ℕ) → w ≢ []
    → state_after table (drop 1 (w ++ x ∷ [])) ≡ step table (state_after table (drop 1 w)) x
behind_push table w x some = ap (state_after table) (without_first w x some) ∙ state_push table (drop 1 w) x

behind_before : (table : Table) (w : List ℕ) (x : ℕ) → w ≢ [] → state_after table (drop 1 (w ++ x ∷ [])) ≢ 0
    → state_after table (drop 1 w) ≢ 0
behind_before table w x some leads_on none = leads_on (behind_push table w x some ∙ ap (λ s. step table s x) none)

pub just_outside_some : {n : ℕ} {Given : List ℕ → Type 0} {w : List ℕ} → IsJustOutside n Given w → w ≢ []
just_outside_some {Given = Given} {w = w} is none =
    let P : List ℕ → Type 0 = λ v. Given (drop 1 v) in
    is.outside (subst Given (sym none) (subst P none is.behind_first))

-- ---- the place of two states

pub place_none : (own : ℕ) → place_of own 0 ≡ None
place_none zero = refl
place_none (suc own) = refl

pub place_end : (behind : ℕ) → behind ≢ 0 → place_of 0 behind ≡ Some End
place_end zero some = absurd (some refl)
place_end (suc behind) some = refl

pub place_some : (own behind : ℕ) → own ≢ 0 → behind ≢ 0 → place_of own behind ≡ Some (Inside own behind)
place_some zero behind some other = absurd (some refl)
place_some (suc own) zero some other = absurd (other refl)
place_some (suc own) (suc behind) some other = refl

-- ---- one place for a word

pub one_place : {acceptor : Automaton} {w : List ℕ} {place other : LeftPlace} → HasPlace acceptor w place → HasPlace acceptor w other
    → place ≡ other
one_place (at_start none) (at_start also) = refl
one_place (at_start none) (inside some own behind is_own is_behind) = absurd (some none)
one_place (at_start none) (at_end left) = absurd (just_outside_some left none)
one_place (inside some own behind is_own is_behind) (at_start none) = absurd (some none)
one_place (inside some own behind is_own is_behind) (inside other own' behind' is_own' is_behind') =
    ap₂ (λ p q. Inside p q) (sym own ∙ own') (sym behind ∙ behind')
one_place (inside some own behind is_own is_behind) (at_end left) = absurd (left.outside (λ none. is_own (sym own ∙ none)))
one_place (at_end left) (at_start none) = absurd (just_outside_some left none)
one_place (at_end left) (inside some own behind is_own is_behind) = absurd (left.outside (λ none. is_own (sym own ∙ none)))
one_place (at_end left) (at_end also) = refl

-- ---- from place to place

letter_from_symbol : (x n : ℕ) → is_symbol (Plain n) x ≡ true → (0 < x) × (x ≤ n)
letter_from_symbol x n holds = let both = and_parts (nat_lt 0 x) (nat_le x n) holds in (ltb-true 0 x both.0, leb-true x n both.1)

-- what is none of the acceptor's letters leads nowhere
module _ (acceptor : Automaton) (place : LeftPlace) where
  pub no_letter_zero : (left_sides acceptor).follow place 0 ≡ None
  no_letter_zero =
      let n = generators acceptor.alphabet in
      cond-false (is_symbol (Plain n) 0) (next_place acceptor.table place 0) None (and_left (nat_lt 0 0) (nat_le 0 n) refl)

  pub no_letter_above : (letter : ℕ) → generators acceptor.alphabet < letter → (left_sides acceptor).follow place letter ≡ None
  no_letter_above letter above =
      let n = generators acceptor.alphabet in
      cond-false (is_symbol (Plain n) letter) (next_place acceptor.table place letter) None
      (and_right (nat_lt 0 letter) (nat_le letter n) (lt-leb letter n above))

  pub letter_follows : (letter : ℕ) → 0 < letter → letter ≤ generators acceptor.alphabet
      → next_place acceptor.table place letter ≡ (left_sides acceptor).follow place letter
  letter_follows letter positive low =
      let n = generators acceptor.alphabet in
      sym (cond-true (is_symbol (Plain n) letter) (next_place acceptor.table place letter) None
      (and_from (nat_lt 0 letter) (nat_le letter n) (lt-ltb 0 letter positive) (le-leb letter n low)))

-- the word has the place, or none
data Outcome (acceptor : Automaton) (w : List ℕ) : Option LeftPlace → Type 0 where
  somewhere : {place : LeftPlace} → HasPlace acceptor w place → Outcome acceptor w (Some place)
  nowhere : ((place : LeftPlace) → ¬ HasPlace acceptor w place) → Outcome acceptor w None

-- no place without a state behind the first letter
no_behind : {acceptor : Automaton} (w : List ℕ) (x : ℕ) (place : LeftPlace) → state_after acceptor.table (drop 1 (w ++ x ∷ [])) ≡ 0
    → ¬ HasPlace acceptor (w ++ x ∷ []) place
no_behind w x Start none (at_start empty) = not_nil w x empty
no_behind w x (Inside own behind) none (inside some is_own is_behind own_some behind_some) = behind_some (sym is_behind ∙ none)
no_behind w x End none (at_end left) = left.behind_first none

-- nor behind a word that leads nowhere
pub no_more : {acceptor : Automaton} (w : List ℕ) (x : ℕ) (place : LeftPlace) → ¬ LeadsSomewhere acceptor w
    → ¬ HasPlace acceptor (w ++ x ∷ []) place
no_more w x Start none (at_start empty) = not_nil w x empty
no_more {acceptor} w x (Inside own behind) none (inside some is_own is_behind own_some behind_some) =
    none (leads_before acceptor.table w x (λ e. own_some (sym is_own ∙ e)))
no_more {acceptor} w x End none (at_end left) = none (subst (LeadsSomewhere acceptor) (without_last w x) left.before_last)

-- a word without its last letter has a place too
pub place_before : {acceptor : Automaton} (w : List ℕ) (x : ℕ) (place : LeftPlace) → HasPlace acceptor (w ++ x ∷ []) place
    → (before : LeftPlace) × HasPlace acceptor w before
place_before [] x place has = (Start, at_start refl)
place_before (y ∷ w) x Start (at_start empty) = absurd (not_nil (y ∷ w) x empty)
place_before {acceptor} (y ∷ w) x (Inside own behind) (inside some is_own is_behind own_some behind_some) = (
  Inside (state_after acceptor.table (y ∷ w)) (state_after acceptor.table w),
  inside (λ none. let no : ⊥ = cc in no) refl refl
      (leads_before acceptor.table (y ∷ w) x (λ e. own_some (sym is_own ∙ e)))
      (leads_before acceptor.table w x (λ e. behind_some (sym is_behind ∙ e))),
)
place_before {acceptor} (y ∷ w) x End (at_end left) = (
  Inside (state_after acceptor.table (y ∷ w)) (state_after acceptor.table w),
  inside (λ none. let no : ⊥ = cc in no) refl refl
      (subst (LeadsSomewhere acceptor) (without_last (y ∷ w) x) left.before_last)
      (leads_before acceptor.table w x left.behind_first),
)

-- the word acceptor is one of words
pub record IsOfWords (acceptor : Automaton) : Type 0 where
  pub is : IsAutomaton acceptor
  pub plain : (n : ℕ) × (acceptor.alphabet ≡ Plain n)

module _ {acceptor : Automaton} (given : IsOfWords acceptor) where
  abbrev n : ℕ
  n = generators acceptor.alphabet

  pub over_of_leads : (w : List ℕ) → LeadsSomewhere acceptor w → IsOver n w
  over_of_leads w some =
      let plain = given.plain in
      let P : Alphabet → Type 0 = λ alphabet. IsTextOf alphabet w in
      let Q : ℕ → Type 0 = λ k. IsOver k w in
      subst Q (sym (ap generators plain.1)) (subst P plain.1 (given.is.texts w some))

  -- a word with a place has the acceptor's letters
  pub over_of_place : (w : List ℕ) (place : LeftPlace) → HasPlace acceptor w place → IsOver n w
  over_of_place w Start (at_start none) = subst (IsOver n) (sym none) (All-nil (λ (x : ℕ). (0 < x) × (x ≤ n)))
  over_of_place w (Inside own behind) (inside some is_own is_behind own_some behind_some) =
      over_of_leads w (λ e. own_some (sym is_own ∙ e))
  over_of_place w End (at_end left) = left.letters

  outcome_of : (w : List ℕ) (x own behind : ℕ) → (0 < x) × (x ≤ n) → state_after acceptor.table (w ++ x ∷ []) ≡ own
      → state_after acceptor.table (drop 1 (w ++ x ∷ [])) ≡ behind → (behind ≢ 0 → LeadsSomewhere acceptor w)
      → Outcome acceptor (w ++ x ∷ []) (place_of own behind)
  outcome_of w x zero zero letter is_own is_behind from = nowhere (λ place. no_behind w x place is_behind)
  outcome_of w x (suc own) zero letter is_own is_behind from = nowhere (λ place. no_behind w x place is_behind)
  outcome_of w x zero (suc behind) letter is_own is_behind from =
      let some = from (λ e. let no : ⊥ = omega arith in no) in
      somewhere (at_end (record {
        letters = All-push (λ (y : ℕ). (0 < y) × (y ≤ n)) w x (over_of_leads w some) letter;
        outside = λ leads_on. leads_on is_own;
        behind_first = λ none. let no : ⊥ = omega (arith, is_behind, none) in no;
        before_last = subst (LeadsSomewhere acceptor) (sym (without_last w x)) some;
      }))
  outcome_of w x (suc own) (suc behind) letter is_own is_behind from =
      somewhere (inside (not_nil w x) is_own is_behind (λ e. let no : ⊥ = omega arith in no) (λ e. let no : ⊥ = omega arith in no))

  next_outcome : (w : List ℕ) (x : ℕ) (place : LeftPlace) → (0 < x) × (x ≤ n) → HasPlace acceptor w place
      → Outcome acceptor (w ++ x ∷ []) (next_place acceptor.table place x)
  next_outcome w x Start letter (at_start none) =
      let table = acceptor.table in
      let P : List ℕ → Type 0 = λ v. Outcome acceptor (v ++ x ∷ []) (place_of (step table table.initial x) table.initial) in
      subst P (sym none) (outcome_of [] x (step table table.initial x) table.initial letter refl refl (λ some. some))
  next_outcome w x (Inside own behind) letter (inside some is_own is_behind own_some behind_some) =
      let table = acceptor.table in
      outcome_of w x (step table own x) (step table behind x) letter (state_push table w x ∙ ap (λ s. step table s x) is_own)
      (behind_push table w x some ∙ ap (λ s. step table s x) is_behind) (λ _ e. own_some (sym is_own ∙ e))
  next_outcome w x End letter (at_end left) = nowhere (λ place. no_more w x place left.outside)

  -- a letter that is none of the acceptor's leads nowhere
  pub is_letter : (x : ℕ) → (0 < x) × (x ≤ n) → is_symbol (Plain n) x ≡ true
  is_letter x letter = and_from (nat_lt 0 x) (nat_le x n) (lt-ltb 0 x letter.0) (le-leb x n letter.1)

  follows : (w : List ℕ) (x : ℕ) (place : LeftPlace) (test : Bool) → is_symbol (Plain n) x ≡ test → HasPlace acceptor w place
      → Outcome acceptor (w ++ x ∷ []) (if test then next_place acceptor.table place x else None)
  follows w x place true is has = next_outcome w x place (letter_from_symbol x n is) has
  follows w x place false is has =
      nowhere (λ next there.
      let over = over_of_place (w ++ x ∷ []) next there in
      true≢false (sym (is_letter x (over_first n x [] (over_rest n w (x ∷ []) over))) ∙ is))

  reads : (front rest : List ℕ) (o : Option LeftPlace) → Outcome acceptor front o
      → Outcome acceptor (front ++ rest) (lead (left_sides acceptor) o rest)
  reads front [] None out =
      let P : List ℕ → Type 0 = λ w. Outcome acceptor w None in subst P (sym (append-nil front)) out
  reads front [] (Some place) out =
      let P : List ℕ → Type 0 = λ w. Outcome acceptor w (Some place) in subst P (sym (append-nil front)) out
  reads front (x ∷ rest) None (nowhere none) =
      let P : List ℕ → Type 0 = λ w. Outcome acceptor w None in
      subst P (append_assoc front (x ∷ []) rest) (reads (front ++ x ∷ []) rest None
      (nowhere (λ place has. let before = place_before front x place has in none before.0 before.1)))
  reads front (x ∷ rest) (Some place) (somewhere has) =
      let next = (left_sides acceptor).follow place x in
      let P : List ℕ → Type 0 = λ w. Outcome acceptor w (lead (left_sides acceptor) next rest) in
      subst P (append_assoc front (x ∷ []) rest)
      (reads (front ++ x ∷ []) rest next (follows front x place (is_symbol (Plain n) x) refl has))

  -- the machine leads each word to its place
  pub leads_to_place : (w : List ℕ) (place : LeftPlace) → (leads (left_sides acceptor) w ≡ Some place) ↔ HasPlace acceptor w place
  leads_to_place w place = (forth, λ has. back has (leads (left_sides acceptor) w) outcome)
    where
      outcome : Outcome acceptor w (leads (left_sides acceptor) w)
      outcome = reads [] w (Some Start) (somewhere (at_start refl))

      has_place : Outcome acceptor w (Some place) → HasPlace acceptor w place
      has_place (somewhere has) = has

      forth : leads (left_sides acceptor) w ≡ Some place → HasPlace acceptor w place
      forth is = has_place (subst (Outcome acceptor w) is outcome)

      back : HasPlace acceptor w place → (o : Option LeftPlace) → Outcome acceptor w o → o ≡ Some place
      back has None (nowhere none) = absurd (none place has)
      back has (Some other) (somewhere also) = ap (λ p. Some p) (one_place also has)
