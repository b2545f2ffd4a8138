-- The trie of left sides, with one more.
use Rattle.std.proofs.Common.{◌≡◌, ◌⊎◌, ℕ, zero, suc, ◌+◌, ◌-◌, ◌<◌, List, [], ◌∷◌, ◌++◌, length, get_or, set, replicate, refl, sym, ap, ◌∙◌, subst, inl, inr, arith, length-append}
use Rattle.std.proofs.lemmas.Bool.{cases_eq, cases_lt}
use Rattle.std.proofs.lemmas.List.{get_or-append_right, get_or-set_other, get_or-set_same, get_or_append_left, get_or_default, length-replicate, length-set, places}
use Rattle.kb_word.specs.Words.{Pair}
use Rattle.kb_trie.specs.States.{AreWords, BeginsWith, Grows, HasWord, States, word}
use Rattle.kb_trie.proofs.Words.{words_root}
use Rattle.kb_wa.specs.Tries.{IsTrieOf, KeepsWord, left_at}

zeros : (numbers : List ℕ) → numbers ≡ 0 ∷ [] → (state : ℕ) → get_or numbers state 0 ≡ 0
zeros numbers same zero = ap (λ (ns : List ℕ). get_or ns 0 0) same
zeros numbers same (suc state) = ap (λ (ns : List ℕ). get_or ns (suc state) 0) same

-- the trie of no left sides
pub trie_none : (rules : List Pair) (trie : States) → trie.words ≡ [] ∷ [] → trie.numbers ≡ 0 ∷ [] → IsTrieOf rules 0 trie
trie_none rules trie words numbers =
    record {
      are = subst AreWords (sym words) words_root;
      numbers = omega (arith, ap length words, ap length numbers);
      beginnings = λ state some within. absurd (omega (arith, ap length words));
      complete = λ place within. absurd (omega arith);
      only = λ state some. absurd (omega (arith, zeros trie.numbers numbers state));
    }

-- the left side of a rule that is read
pub left_read : (rules : List Pair) (place : ℕ) (rule : Pair) → place < length rules → rule ≡ get_or rules place rule
    → left_at rules place ≡ rule.0
left_read rules place rule within read = ap (λ (r : Pair). r.0) (get_or_default rules place ([], []) rule within ∙ sym read)

-- the state keeps a number, as others did before, and no further ones
pub record Keeps (before after : List ℕ) (state : ℕ) : Type 0 where
  pub count : length after ≡ length before
  pub own : 0 < get_or after state 0
  pub stay : (other : ℕ) → 0 < get_or before other 0 → 0 < get_or after other 0
  pub only : (other : ℕ) → 0 < get_or after other 0 → (0 < get_or before other 0) ⊎ (other ≡ state)

pub keeps_own : (numbers : List ℕ) (state : ℕ) → 0 < get_or numbers state 0 → Keeps numbers numbers state
keeps_own numbers state own =
    record { count = refl; own = own; stay = λ other some. some; only = λ other some. inl some }

pub keeps_set : (numbers : List ℕ) (state : ℕ) → state < length numbers → Keeps numbers (set numbers state 1) state
keeps_set numbers state within =
    let own : 0 < get_or (set numbers state 1) state 0 = omega (arith, get_or-set_same numbers state 1 0 within) in
    record {
      count = length-set numbers state 1;
      own = own;
      stay = λ other some.
          elim (cases_eq other state) [
            | inl same ↦ let P : ℕ → Type 0 = λ s. 0 < get_or (set numbers state 1) s 0 in subst P (sym same) own
            | inr apart ↦ omega (arith, some, get_or-set_other numbers state other 1 0 apart)
          ];
      only = λ other some.
          elim (cases_eq other state) [
            | inl same ↦ inr same
            | inr apart ↦ inl (omega (arith, some, get_or-set_other numbers state other 1 0 apart))
          ];
    }

-- states that came keep no number
number_grown : (numbers : List ℕ) (count state : ℕ) → get_or (numbers ++ replicate count 0) state 0 ≡ get_or numbers state 0
number_grown numbers count state = grind (arith, places)

-- what keeps a number is a state
some_within : (numbers : List ℕ) (state : ℕ) → 0 < get_or numbers state 0 → state < length numbers
some_within numbers state some = grind (arith, places)

pub numbers_grown : (w : List ℕ) (before after : States) → Grows w before after → length before.numbers ≡ length before.words
    → length after.numbers ≡ length after.words
numbers_grown w before after grows same =
    omega (
      arith,
      ap length grows.numbers,
      length-append before.numbers (replicate (length grows.more) 0),
      length-replicate {A = ℕ} (length grows.more) 0,
      ap length grows.words,
      length-append before.words grows.more,
    )

-- the trie with the states of a left side more, whose own state keeps a number then
pub inserted : (rules : List Pair) (place : ℕ) (before mid after : States) (state : ℕ) → IsTrieOf rules place before
    → Grows (left_at rules place) before mid → AreWords mid.words → HasWord mid.words (left_at rules place) state → after.words ≡ mid.words
    → Keeps mid.numbers after.numbers state → IsTrieOf rules (place + 1) after
inserted rules place before mid after state is grows are has words keeps =
    let left : List ℕ = left_at rules place in
    let more : List (List ℕ) = grows.more in
    let grown : after.words ≡ before.words ++ grows.more = words ∙ grows.words in
    let count : length after.words ≡ length before.words + length grows.more = ap length grown ∙ length-append before.words grows.more in
    let old : (s : ℕ) → s < length before.words → word after.words s ≡ word before.words s =
    λ s within. ap (λ (ws : List (List ℕ)). word ws s) grown ∙ get_or_append_left before.words more [] s within in
    let number : (s : ℕ) → get_or mid.numbers s 0 ≡ get_or before.numbers s 0 =
    λ s. ap (λ (ns : List ℕ). get_or ns s 0) grows.numbers ∙ number_grown before.numbers (length grows.more) s in
    let own : word after.words state ≡ left_at rules place = ap (λ (ws : List (List ℕ)). word ws state) words ∙ has.is in
    record {
      are = subst AreWords (sym words) are;
      numbers = omega (arith, keeps.count, numbers_grown left before mid grows is.numbers, ap length words);
      beginnings = λ s some within.
          elim (cases_lt s (length before.words)) [
            | inl early ↦
                let begins = is.beginnings s some early in
                record {
                  place = begins.place;
                  within = omega (arith, begins.within);
                  begins = subst (BeginsWith (left_at rules begins.place)) (sym (old s early)) begins.begins;
                }
            | inr late ↦
                let new : word after.words s ≡ get_or more (s - length before.words) [] =
                ap (λ (ws : List (List ℕ)). word ws s) grown
                ∙ get_or-append_right before.words more (length before.words) s [] refl late in
                record {
                  place = place;
                  within = omega arith;
                  begins = subst (BeginsWith left) (sym new) (grows.each (s - length before.words) [] (omega arith));
                }
          ];
      complete = λ p within.
          elim (cases_lt p place) [
            | inl early ↦
                let kept = is.complete p early in
                record {
                  state = kept.state;
                  has = record { within = omega (arith, kept.has.within); is = old kept.state kept.has.within ∙ kept.has.is };
                  some = keeps.stay kept.state (omega (arith, number kept.state, kept.some));
                }
            | inr late ↦
                let same : place ≡ p = omega arith in
                let P : ℕ → Type 0 = λ q. KeepsWord after (left_at rules q) in
                subst P same (record {
                  state = state;
                  has = record { within = omega (arith, has.within, ap length words); is = own };
                  some = keeps.own;
                })
          ];
      only = λ s some.
          elim (keeps.only s some) [
            | inl kept ↦
                let there : 0 < get_or before.numbers s 0 = omega (arith, number s, kept) in
                let is_left = is.only s there in
                let within : s < length before.words = omega (arith, some_within before.numbers s there, is.numbers) in
                record { place = is_left.place; within = omega (arith, is_left.within); is = is_left.is ∙ sym (old s within) }
            | inr same ↦ record { place = place; within = omega arith; is = sym (ap (word after.words) same ∙ own) }
          ];
    }

-- where that state is given one
pub inserted_set : (rules : List Pair) (place : ℕ) (left : List ℕ) (before mid after : States) (state : ℕ) → left_at rules place ≡ left
    → IsTrieOf rules place before → Grows left before mid → AreWords mid.words → HasWord mid.words left state → after.words ≡ mid.words
    → after.numbers ≡ set mid.numbers state 1 → IsTrieOf rules (place + 1) after
inserted_set rules place left before mid after state same is grows are has words numbers =
    let G : List ℕ → Type 0 = λ w. Grows w before mid in
    let H : List ℕ → Type 0 = λ w. HasWord mid.words w state in
    let K : List ℕ → Type 0 = λ ns. Keeps mid.numbers ns state in
    let within : state < length mid.numbers = omega (arith, has.within, numbers_grown left before mid grows is.numbers) in
    inserted rules place before mid after state is (subst G (sym same) grows) are (subst H (sym same) has) words
    (subst K (sym numbers) (keeps_set mid.numbers state within))

-- where it keeps one already
pub inserted_kept : (rules : List Pair) (place : ℕ) (left : List ℕ) (before after : States) (state : ℕ) → left_at rules place ≡ left
    → IsTrieOf rules place before → Grows left before after → AreWords after.words → HasWord after.words left state
    → 0 < get_or after.numbers state 0 → IsTrieOf rules (place + 1) after
inserted_kept rules place left before after state same is grows are has some =
    let G : List ℕ → Type 0 = λ w. Grows w before after in
    let H : List ℕ → Type 0 = λ w. HasWord after.words w state in
    inserted rules place before after after state is (subst G (sym same) grows) are (subst H (sym same) has) refl
    (keeps_own after.numbers state some)
