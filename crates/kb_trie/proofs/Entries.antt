-- The left sides of a lookup, and the states of their words.
use Rattle.std.proofs.Common.{◌≡◌, ℕ, zero, suc, ◌+◌, ◌-◌, ◌<◌, ◌≤◌, List, [], ◌∷◌, ◌++◌, length, get_or, map, replicate, Option, Some, None, option_map, refl, sym, ap, ◌∙◌, subst, inl, inr, arith, length-append}
use Rattle.std.proofs.lemmas.List.{ext_get_or, get_or-append_right, get_or-map, get_or-replicate, get_or_append_left, length-map, length-replicate}
use Rattle.std.proofs.lemmas.Option.{none-some}
use Rattle.std.proofs.lemmas.Bool.{cases_lt}
use Rattle.kb_trie.specs.declared.lookup.Entry.{Entry}
use Rattle.kb_trie.specs.States.{AreWords, Grows, States, word}
use Rattle.kb_trie.specs.LeftSides.{AreLefts, HasAt, IsLeastOf}
use Rattle.kb_trie.specs.Lookups.{IsEntry, IsLookup, kept, lefts_of, states_in}
use Rattle.kb_trie.proofs.HasAt.{has_map, has_mapped}
use Rattle.kb_trie.proofs.Least.{least_there}
use Rattle.kb_trie.proofs.Longest.{some_length}
use Rattle.kb_trie.proofs.Numbers.{by}
use Rattle.kb_trie.proofs.Words.{words_root}

-- the entry of a number that has a state
pub entry_here : (entries : List (Option Entry)) (state number : ℕ) → HasAt (states_in entries) state number
    → (entry : Entry) × HasAt entries entry number × (entry.state ≡ state)
entry_here entries state number has = has_mapped (λ (e : Entry). e.state) entries state number has

pub state_here : (entries : List (Option Entry)) (entry : Entry) (number : ℕ) → HasAt entries entry number
    → HasAt (states_in entries) entry.state number
state_here entries entry number has = has_map (λ (e : Entry). e.state) entries entry number has

only_zero : (state : ℕ) → ◌≡◌ {A = ℕ} (get_or (0 ∷ []) state 0) 0
only_zero zero = refl
only_zero (suc state) = refl

-- without left sides
pub lookup_none : (trie : States) → trie.words ≡ [] ∷ [] → trie.numbers ≡ 0 ∷ [] → IsLookup trie []
lookup_none trie words numbers =
    record {
      words = subst AreWords (sym words) words_root;
      numbers = ap length numbers ∙ sym (ap length words);
      few = omega arith;
      entries_are = λ number entry has. absurd (none-some entry has);
      firsts = λ state within.
          let P : ℕ → Type 0 = λ n. IsLeastOf (HasAt (states_in []) state) 0 (kept n) in
          let none_is : get_or trie.numbers state 0 ≡ 0 = ap (λ (ns : List ℕ). get_or ns state 0) numbers ∙ only_zero state in
          subst P (sym none_is) (λ number behind has. none-some state has);
    }

-- by a trie with the same words and numbers
pub lookup_same : (trie trie' : States) (entries : List (Option Entry)) → trie'.words ≡ trie.words → trie'.numbers ≡ trie.numbers
    → IsLookup trie entries → IsLookup trie' entries
lookup_same trie trie' entries words numbers is =
    let same : trie' ≡ trie =
    ap (λ (ws : List (List ℕ)). by ws trie'.numbers) words ∙ ap (λ (ns : List ℕ). by trie.words ns) numbers in
    let P : States → Type 0 = λ t. IsLookup t entries in
    subst P (sym same) is

-- a state that has a number is a state of the trie
pub state_within : (trie : States) (entries : List (Option Entry)) → IsLookup trie entries → (state number : ℕ)
    → HasAt (states_in entries) state number → (0 < state) × (state < length trie.words)
state_within trie entries is state number has =
    let here = entry_here entries state number has in
    let entry : IsEntry (length trie.words) (states_in entries) number here.0 = is.entries_are number here.0 here.1 in
    (omega (arith, entry.some, here.2), omega (arith, entry.within, here.2))

pub lefts_length : (trie : States) (entries : List (Option Entry)) → length (lefts_of trie.words (states_in entries)) ≡ length entries
lefts_length trie entries =
    length-map (states_in entries) (option_map (word trie.words)) ∙ length-map entries (option_map (λ (e : Entry). e.state))

-- with more states
pub lookup_grown : (w : List ℕ) (trie trie' : States) (entries : List (Option Entry)) → Grows w trie trie' → AreWords trie'.words
    → IsLookup trie entries → IsLookup trie' entries
lookup_grown w trie trie' entries grows are is =
    let zeros : List ℕ = replicate (length grows.more) 0 in
    let words : length trie'.words ≡ length trie.words + length grows.more =
    ap length grows.words ∙ length-append trie.words grows.more in
    let numbers : length trie'.numbers ≡ length trie.numbers + length grows.more =
    omega (arith, ap length grows.numbers, length-append trie.numbers zeros, length-replicate {A = ℕ} (length grows.more) 0) in
    record {
      words = are;
      numbers = omega (arith, is.numbers);
      few = is.few;
      entries_are = λ number entry has.
          let old : IsEntry (length trie.words) (states_in entries) number entry = is.entries_are number entry has in
          record { some = old.some; within = omega (arith, old.within); next = old.next };
      firsts = λ state within.
          let P : ℕ → Type 0 = λ n. IsLeastOf (HasAt (states_in entries) state) 0 (kept n) in
          let read : get_or trie'.numbers state 0 ≡ get_or (trie.numbers ++ zeros) state 0 =
          ap (λ (ns : List ℕ). get_or ns state 0) grows.numbers in
          elim (cases_lt state (length trie.words)) [
            | inl old ↦
                let same : get_or (trie.numbers ++ zeros) state 0 ≡ get_or trie.numbers state 0 =
                get_or_append_left trie.numbers zeros 0 state (omega (arith, is.numbers)) in
                subst P (sym (read ∙ same)) (is.firsts state old)
            | inr new ↦
                let late : length trie.numbers ≤ state = omega (arith, is.numbers) in
                let none : get_or (trie.numbers ++ zeros) state 0 ≡ 0 =
                get_or-append_right trie.numbers zeros (length trie.numbers) state 0 refl late
                ∙ get_or-replicate (length grows.more) (state - length trie.numbers) 0 0 (omega (arith, is.numbers)) in
                subst P (sym (read ∙ none))
                (λ number behind has. let there = state_within trie entries is state number has in omega (arith, there.1))
          ];
    }

option_same : {A B : Type 0} (f g : A → B) (option : Option A) → ((x : A) → option ≡ Some x → f x ≡ g x)
    → option_map f option ≡ option_map g option
option_same f g None same = refl
option_same f g (Some x) same = ap (λ y. Some y) (same x refl)

map_option_same : {A B : Type 0} (f g : A → B) (list : List (Option A)) → ((x : A) (number : ℕ) → HasAt list x number → f x ≡ g x)
    → map (option_map f) list ≡ map (option_map g) list
map_option_same f g list same =
    ext_get_or None (map (option_map f) list) (map (option_map g) list)
    (length-map list (option_map f) ∙ sym (length-map list (option_map g)))
    (λ number within.
    let inside : number < length list = omega (arith, within, length-map list (option_map f)) in
    get_or-map (option_map f) list number None None inside
    ∙ option_same f g (get_or list number None) (λ x has. same x number has)
    ∙ sym (get_or-map (option_map g) list number None None inside))

-- the left sides stay when there are more states
pub lefts_grown : (trie : States) (entries : List (Option Entry)) (more : List (List ℕ)) → IsLookup trie entries
    → lefts_of (trie.words ++ more) (states_in entries) ≡ lefts_of trie.words (states_in entries)
lefts_grown trie entries more is =
    map_option_same (word (trie.words ++ more)) (word trie.words) (states_in entries)
    (λ state number has.
    let there = state_within trie entries is state number has in
    get_or_append_left trie.words more [] state there.1)

-- the left side with the number is the word of a state, which the number has
pub record AtState (words : List (List ℕ)) (states : List (Option ℕ)) (left : List ℕ) (number : ℕ) : Type 0 where
  pub state : ℕ
  pub has : HasAt states state number
  pub some : 0 < state
  pub within : state < length words
  pub is : word words state ≡ left

pub at_state : (trie : States) (entries : List (Option Entry)) → IsLookup trie entries → (left : List ℕ) (number : ℕ)
    → HasAt (lefts_of trie.words (states_in entries)) left number → AtState trie.words (states_in entries) left number
at_state trie entries is left number has =
    let here = has_mapped (word trie.words) (states_in entries) left number has in
    let there = state_within trie entries is here.0 number here.1 in
    record { state = here.0; has = here.1; some = there.0; within = there.1; is = here.2 }

-- a number has the word of a state exactly where it has the state
pub left_here : (words : List (List ℕ)) (states : List (Option ℕ)) (state number : ℕ) → HasAt states state number
    → HasAt (lefts_of words states) (word words state) number
left_here words states state number has = has_map (word words) states state number has

pub state_there : (trie : States) (entries : List (Option Entry)) → IsLookup trie entries → (state number : ℕ) → state < length trie.words
    → HasAt (lefts_of trie.words (states_in entries)) (word trie.words state) number → HasAt (states_in entries) state number
state_there trie entries is state number within has =
    let at : AtState trie.words (states_in entries) (word trie.words state) number = at_state trie entries is (word trie.words state) number has in
    let P : ℕ → Type 0 = λ s. HasAt (states_in entries) s number in
    subst P (is.words.apart at.state state at.within within at.is) at.has

pub are_lefts : (trie : States) (entries : List (Option Entry)) → IsLookup trie entries
    → AreLefts trie.words (lefts_of trie.words (states_in entries))
are_lefts trie entries is =
    record {
      states = λ number left has.
          let at : AtState trie.words (states_in entries) left number = at_state trie entries is left number has in
          (at.state, record { within = at.within; is = at.is });
      some = λ number has.
          let at : AtState trie.words (states_in entries) [] number = at_state trie entries is [] number has in
          omega (arith, some_length trie.words is.words at.state at.some at.within, ap length at.is);
    }

-- a state that a number has keeps a number
pub keeps_here : (trie : States) (entries : List (Option Entry)) → IsLookup trie entries → (state number : ℕ)
    → HasAt (states_in entries) state number → 0 < get_or trie.numbers state 0
keeps_here trie entries is state number has =
    let there = state_within trie entries is state number has in
    least_there (HasAt (states_in entries) state) 0 (get_or trie.numbers state 0) number (is.firsts state there.1) (omega arith) has
