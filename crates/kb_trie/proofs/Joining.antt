-- The entries when a number comes, and when one goes.
use Rattle.std.proofs.Common.{◌≡◌, ℕ, ◌+◌, ◌-◌, ◌<◌, ◌≤◌, ◌^◌, List, [], ◌∷◌, ◌++◌, length, get_or, set, Option, Some, None, option_map, sym, ap, ◌∙◌, subst, inl, inr, arith, length-set}
use Rattle.std.proofs.lemmas.List.{get_or-set_same, get_or-set_other, length_push, length-map, map-set, map_push}
use Rattle.std.proofs.lemmas.Bool.{cases_eq, cases_lt}
use Rattle.kb_trie.specs.declared.lookup.Entry.{Entry}
use Rattle.kb_trie.specs.States.{States}
use Rattle.kb_trie.specs.LeftSides.{HasAt, IsLast, IsLeast, IsLeastOf}
use Rattle.kb_trie.specs.Lookups.{AreEntries, IsEntry, IsLookup, kept, states_in}
use Rattle.kb_trie.proofs.HasAt.{has_before, has_cases, has_one, has_set, has_within, map_same}
use Rattle.kb_trie.proofs.Entries.{entry_here, keeps_here, lookup_same, state_here}
use Rattle.kb_trie.proofs.Least.{kept_none, least_at, least_behind, least_first, least_kept, least_less, least_more, least_of_number, least_passed, least_there}
use Rattle.kb_trie.proofs.Numbers.{by}

-- the entry with this state and this next number, counted from 1
abbrev pub entry_by : ℕ → ℕ → Entry
entry_by state next = record { state = state; next = next }

pub states_push : (entries : List (Option Entry)) (entry : Entry)
    → states_in (entries ++ Some entry ∷ []) ≡ states_in entries ++ Some entry.state ∷ []
states_push entries entry = map_push (option_map (λ (e : Entry). e.state)) entries (Some entry)

pub states_less : (entries : List (Option Entry)) (gone : ℕ) → states_in (set entries gone None) ≡ set (states_in entries) gone None
states_less entries gone = map-set (option_map (λ (e : Entry). e.state)) entries gone None

pub states_same : (entries : List (Option Entry)) (place : ℕ) (old new : Entry) → HasAt entries old place → new.state ≡ old.state
    → states_in (set entries place (Some new)) ≡ states_in entries
states_same entries place old new has same = map_same (λ (e : Entry). e.state) entries place old new has same

pub states_length : (entries : List (Option Entry)) → length (states_in entries) ≡ length entries
states_length entries = length-map entries (option_map (λ (e : Entry). e.state))

-- an entry, when a state comes that is not its own, or that there is behind it before
entry_more : (count : ℕ) (states : List (Option ℕ)) (state number : ℕ) (entry : Entry) → (entry.state ≡ state → 0 < entry.next)
    → IsEntry count states number entry → IsEntry count (states ++ Some state ∷ []) number entry
entry_more count states state number entry some is =
    record {
      some = is.some;
      within = is.within;
      next = least_more states entry.state state (number + 1) entry.next some is.next;
    }

-- an entry, when a number goes that is not the next one
entry_less : (count : ℕ) (states : List (Option ℕ)) (gone number : ℕ) (entry : Entry) → (entry.next ≡ gone + 1 → ⊥)
    → IsEntry count states number entry → IsEntry count (set states gone None) number entry
entry_less count states gone number entry apart is =
    record {
      some = is.some;
      within = is.within;
      next = least_less states entry.state (number + 1) entry.next gone apart is.next;
    }

entries_joined : (count : ℕ) (entries : List (Option Entry)) (state : ℕ) → 0 < state → state < count
    → ((number : ℕ) (entry : Entry) → HasAt entries entry number → IsEntry count (states_in entries ++ Some state ∷ []) number entry)
    → AreEntries count (entries ++ Some (entry_by state 0) ∷ [])
entries_joined count entries state some within each number entry has =
    let new : Entry = entry_by state 0 in
    let states : List (Option ℕ) = states_in entries in
    let P : List (Option ℕ) → Type 0 = λ ss. IsEntry count ss number entry in
    subst P (sym (states_push entries new))
    (elim (has_cases entries new entry number has) [
      | inl old ↦ each number entry old
      | inr last ↦
          let Q : Entry → Type 0 = λ e. IsEntry count (states_in entries ++ Some state ∷ []) number e in
          subst Q (sym last.1)
          (record {
            some = some;
            within = within;
            next = least_behind (states ++ Some state ∷ []) state (number + 1)
                (omega (arith, last.0, length_push states (Some state), states_length entries));
          })
    ])

entries_left : (count : ℕ) (entries : List (Option Entry)) (gone : ℕ)
    → ((number : ℕ) (entry : Entry) → (number ≡ gone → ⊥) → HasAt entries entry number
    → IsEntry count (set (states_in entries) gone None) number entry)
    → AreEntries count (set entries gone None)
entries_left count entries gone each number entry has =
    let P : List (Option ℕ) → Type 0 = λ ss. IsEntry count ss number entry in
    let there = has_before entries gone entry number has in
    subst P (sym (states_less entries gone)) (each number entry there.1 there.0)

-- the first number of a state comes
pub joined_first : (trie trie' : States) (entries : List (Option Entry)) → IsLookup trie entries → (state number : ℕ) → 0 < state
    → state < length trie.words → number ≡ length entries → number + 2 < 2 ^ 32 → None ≡ kept (get_or trie.numbers state 0)
    → trie'.words ≡ trie.words → trie'.numbers ≡ set trie.numbers state (number + 1)
    → IsLookup trie' (entries ++ Some (entry_by state 0) ∷ [])
joined_first trie trie' entries is state number some within last few none words numbers =
    let states : List (Option ℕ) = states_in entries in
    let new : Entry = entry_by state 0 in
    let set_numbers : List ℕ = set trie.numbers state (number + 1) in
    let long : length states ≡ length entries = states_length entries in
    let none_is : get_or trie.numbers state 0 ≡ 0 = kept_none (get_or trie.numbers state 0) (sym none) in
    let empty : (k : ℕ) → HasAt (states_in entries) state k → ⊥ = λ k has. omega (arith, keeps_here trie entries is state k has) in
    lookup_same (by trie.words (set trie.numbers state (number + 1))) trie' (entries ++ Some (entry_by state 0) ∷ []) words numbers
    (record {
      words = is.words;
      numbers = length-set trie.numbers state (number + 1) ∙ is.numbers;
      few = omega (arith, length_push entries (Some new));
      entries_are = entries_joined (length trie.words) entries state some within
          (λ k entry has.
          entry_more (length trie.words) (states_in entries) state k entry
          (λ same.
          let P : ℕ → Type 0 = λ s. HasAt (states_in entries) s k in
          absurd (empty k (subst P same (state_here entries entry k has))))
          (is.entries_are k entry has));
      firsts = λ s in_words.
          let P : List (Option ℕ) → Type 0 = λ ss. IsLeastOf (HasAt ss s) 0 (kept (get_or (set trie.numbers state (number + 1)) s 0)) in
          let N : ℕ → Type 0 = λ n. IsLeastOf (HasAt (states_in entries ++ Some state ∷ []) s) 0 (kept n) in
          subst P (sym (states_push entries new))
          (elim (cases_eq s state) [
            | inl same ↦
                let read : get_or set_numbers s 0 ≡ number + 1 =
                ap (λ (k : ℕ). get_or set_numbers k 0) same ∙ get_or-set_same trie.numbers state (number + 1) 0 (omega (arith, is.numbers)) in
                let M : ℕ → Type 0 = λ n. IsLeast (HasAt (states_in entries ++ Some state ∷ []) state) 0 n in
                let S : ℕ → Type 0 = λ k. IsLeastOf (HasAt (states_in entries ++ Some state ∷ []) k) 0 (kept (number + 1)) in
                let least : M number = subst M (omega arith) (least_first states state 0 (omega arith) (λ k behind has. empty k has)) in
                subst N (sym read)
                (subst S (sym same) (least_of_number (HasAt (states_in entries ++ Some state ∷ []) state) 0 number least))
            | inr apart ↦
                subst N (sym (get_or-set_other trie.numbers state s (number + 1) 0 apart))
                (least_more states s state 0 (get_or trie.numbers s 0) (λ same. absurd (apart same)) (is.firsts s in_words))
          ]);
    })

-- one more number of a state comes
pub joined_last : (trie : States) (entries : List (Option Entry)) → IsLookup trie entries → (state number last : ℕ) → 0 < state
    → state < length trie.words → number ≡ length entries → number + 2 < 2 ^ 32 → (old : Entry) → HasAt entries old last → old.state ≡ state
    → IsLast (HasAt (states_in entries) state) number last
    → IsLookup trie (set entries last (Some (entry_by state (number + 1))) ++ Some (entry_by state 0) ∷ [])
joined_last trie entries is state number last some within count few old has old_is is_last =
    let states : List (Option ℕ) = states_in entries in
    let changed : Entry = entry_by state (number + 1) in
    let entries' : List (Option Entry) = set entries last (Some changed) in
    let new : Entry = entry_by state 0 in
    let long : length states ≡ length entries = states_length entries in
    let same_length : length entries' ≡ length entries = length-set entries last (Some changed) in
    let same_states : states_in (set entries last (Some (entry_by state (number + 1)))) ≡ states_in entries =
    states_same entries last old changed has (sym old_is) in
    let below : last < number = is_last.before in
    record {
      words = is.words;
      numbers = is.numbers;
      few = omega (arith, length_push entries' (Some new));
      entries_are = entries_joined (length trie.words) (set entries last (Some (entry_by state (number + 1)))) state some within
          (λ k entry there.
          let P : List (Option ℕ) → Type 0 = λ ss. IsEntry (length trie.words) (ss ++ Some state ∷ []) k entry in
          subst P (sym same_states)
          (elim (has_set entries last changed entry k there) [
            | inl other ↦
                let of : IsEntry (length trie.words) (states_in entries) k entry = is.entries_are k entry other.0 in
                entry_more (length trie.words) (states_in entries) state k entry
                (λ same.
                let S : ℕ → Type 0 = λ s. HasAt (states_in entries) s k in
                let T : ℕ → Type 0 = λ s. HasAt (states_in entries) s last in
                let here : HasAt (states_in entries) state k = subst S same (state_here entries entry k other.0) in
                let earlier : k ≤ last = is_last.last k (omega (arith, has_within states state k here)) here in
                least_there (HasAt (states_in entries) entry.state) (k + 1) entry.next last of.next (omega (arith, other.1)) (subst T (sym same) is_last.is))
                of
            | inr is_changed ↦
                let E : Entry → Type 0 = λ e. IsEntry (length trie.words) (states_in entries ++ Some state ∷ []) k e in
                let M : ℕ → Type 0 = λ n. IsLeast (HasAt (states_in entries ++ Some state ∷ []) state) (k + 1) n in
                let least : M number =
                subst M (omega arith)
                (least_first states state (k + 1) (omega (arith, is_changed.0))
                (λ j behind has_it. omega (arith, is_changed.0, is_last.last j (omega (arith, has_within states state j has_it)) has_it))) in
                subst E (sym is_changed.1)
                (record { some = some; within = within; next = least_of_number (HasAt (states_in entries ++ Some state ∷ []) state) (k + 1) number least })
          ]));
      firsts = λ s in_words.
          let P : List (Option ℕ) → Type 0 = λ ss. IsLeastOf (HasAt ss s) 0 (kept (get_or trie.numbers s 0)) in
          let pushed : states_in (entries' ++ Some new ∷ []) ≡ states ++ Some state ∷ [] =
          states_push entries' new ∙ ap (λ (ss : List (Option ℕ)). ss ++ Some state ∷ []) same_states in
          subst P (sym pushed)
          (least_more states s state 0 (get_or trie.numbers s 0)
          (λ same.
          let T : ℕ → Type 0 = λ k. HasAt (states_in entries) k last in
          keeps_here trie entries is s last (subst T (sym same) is_last.is))
          (is.firsts s in_words));
    }

-- the first number of a state goes
pub left_first : (trie trie' : States) (entries : List (Option Entry)) → IsLookup trie entries → (number : ℕ) (entry : Entry)
    → HasAt entries entry number → get_or trie.numbers entry.state 0 ≡ number + 1
    → trie'.words ≡ trie.words → trie'.numbers ≡ set trie.numbers entry.state entry.next → IsLookup trie' (set entries number None)
left_first trie trie' entries is number entry has first words numbers =
    let states : List (Option ℕ) = states_in entries in
    let state : ℕ = entry.state in
    let set_numbers : List ℕ = set trie.numbers entry.state entry.next in
    let of : IsEntry (length trie.words) (states_in entries) number entry = is.entries_are number entry has in
    let here : HasAt (states_in entries) entry.state number = state_here entries entry number has in
    let least : IsLeast (HasAt (states_in entries) entry.state) 0 number =
    least_at (HasAt (states_in entries) entry.state) 0 (get_or trie.numbers entry.state 0) number (is.firsts entry.state of.within) first in
    lookup_same (by trie.words (set trie.numbers entry.state entry.next)) trie' (set entries number None) words numbers
    (record {
      words = is.words;
      numbers = length-set trie.numbers state entry.next ∙ is.numbers;
      few = omega (arith, is.few, length-set entries number None);
      entries_are = entries_left (length trie.words) entries number
          (λ k other apart there.
          let of_other : IsEntry (length trie.words) (states_in entries) k other = is.entries_are k other there in
          entry_less (length trie.words) (states_in entries) number k other
          (λ next.
          let next_is : IsLeast (HasAt (states_in entries) other.state) (k + 1) number =
          least_at (HasAt (states_in entries) other.state) (k + 1) other.next number of_other.next next in
          let same : other.state ≡ entry.state = has_one states other.state entry.state number next_is.is here in
          let P : ℕ → Type 0 = λ s. HasAt (states_in entries) s k in
          omega (arith, next_is.behind, least.least k (omega arith) (subst P same (state_here entries other k there))))
          of_other);
      firsts = λ s in_words.
          let P : List (Option ℕ) → Type 0 = λ ss. IsLeastOf (HasAt ss s) 0 (kept (get_or (set trie.numbers entry.state entry.next) s 0)) in
          let N : ℕ → Type 0 = λ n. IsLeastOf (HasAt (set (states_in entries) number None) s) 0 (kept n) in
          subst P (sym (states_less entries number))
          (elim (cases_eq s state) [
            | inl same ↦
                let read : get_or set_numbers s 0 ≡ entry.next =
                ap (λ (k : ℕ). get_or set_numbers k 0) same ∙ get_or-set_same trie.numbers state entry.next 0 (omega (arith, of.within, is.numbers)) in
                let S : ℕ → Type 0 = λ k. IsLeastOf (HasAt (set (states_in entries) number None) k) 0 (kept entry.next) in
                subst N (sym read) (subst S (sym same) (least_passed states entry.state 0 entry.next number least of.next))
            | inr apart ↦
                subst N (sym (get_or-set_other trie.numbers state s entry.next 0 apart))
                (least_less states s 0 (get_or trie.numbers s 0) number
                (λ next.
                let there : IsLeast (HasAt (states_in entries) s) 0 number =
                least_at (HasAt (states_in entries) s) 0 (get_or trie.numbers s 0) number (is.firsts s in_words) next in
                apart (has_one states s entry.state number there.is here))
                (is.firsts s in_words))
          ]);
    })

-- another number of a state goes
pub left_later : (trie : States) (entries : List (Option Entry)) → IsLookup trie entries → (number before : ℕ) (entry old : Entry)
    → HasAt entries entry number → HasAt entries old before → old.state ≡ entry.state
    → IsLast (HasAt (states_in entries) entry.state) number before
    → IsLookup trie (set (set entries before (Some entry)) number None)
left_later trie entries is number before entry old has has_old old_is last =
    let states : List (Option ℕ) = states_in entries in
    let entries' : List (Option Entry) = set entries before (Some entry) in
    let of : IsEntry (length trie.words) (states_in entries) number entry = is.entries_are number entry has in
    let here : HasAt (states_in entries) entry.state number = state_here entries entry number has in
    let same_states : states_in (set entries before (Some entry)) ≡ states_in entries =
    states_same entries before old entry has_old (sym old_is) in
    let below : before < number = last.before in
    record {
      words = is.words;
      numbers = is.numbers;
      few = omega (arith, is.few, length-set entries' number None, length-set entries before (Some entry));
      entries_are = entries_left (length trie.words) (set entries before (Some entry)) number
          (λ k other apart there.
          let P : List (Option ℕ) → Type 0 = λ ss. IsEntry (length trie.words) (set ss number None) k other in
          subst P (sym same_states)
          (elim (has_set entries before entry other k there) [
            | inl kept_it ↦
                let of_other : IsEntry (length trie.words) (states_in entries) k other = is.entries_are k other kept_it.0 in
                entry_less (length trie.words) (states_in entries) number k other
                (λ next.
                let next_is : IsLeast (HasAt (states_in entries) other.state) (k + 1) number =
                least_at (HasAt (states_in entries) other.state) (k + 1) other.next number of_other.next next in
                let same : other.state ≡ entry.state = has_one states other.state entry.state number next_is.is here in
                let S : ℕ → Type 0 = λ s. HasAt (states_in entries) s k in
                let T : ℕ → Type 0 = λ s. HasAt (states_in entries) s before in
                let earlier : k ≤ before =
                last.last k (omega (arith, next_is.behind)) (subst S same (state_here entries other k kept_it.0)) in
                omega (arith, kept_it.1, next_is.least before (omega (arith, kept_it.1)) (subst T (sym same) last.is)))
                of_other
            | inr is_before ↦
                let E : Entry → Type 0 = λ e. IsEntry (length trie.words) (set (states_in entries) number None) k e in
                let least : IsLeast (HasAt (states_in entries) entry.state) (k + 1) number = record {
                  behind = omega (arith, is_before.0);
                  is = here;
                  least = λ j behind has_it.
                      elim (cases_lt j number) [
                        | inl less ↦ absurd (omega (arith, is_before.0, last.last j less has_it))
                        | inr more ↦ more
                      ];
                } in
                subst E (sym is_before.1)
                (record { some = of.some; within = of.within; next = least_passed states entry.state (k + 1) entry.next number least of.next })
          ]));
      firsts = λ s in_words.
          let P : List (Option ℕ) → Type 0 = λ ss. IsLeastOf (HasAt ss s) 0 (kept (get_or trie.numbers s 0)) in
          let less : states_in (set entries' number None) ≡ set states number None =
          states_less entries' number ∙ ap (λ (ss : List (Option ℕ)). set ss number None) same_states in
          subst P (sym less)
          (least_less states s 0 (get_or trie.numbers s 0) number
          (λ next.
          let there : IsLeast (HasAt (states_in entries) s) 0 number =
          least_at (HasAt (states_in entries) s) 0 (get_or trie.numbers s 0) number (is.firsts s in_words) next in
          let same : s ≡ entry.state = has_one states s entry.state number there.is here in
          let T : ℕ → Type 0 = λ k. HasAt (states_in entries) k before in
          omega (arith, there.least before (omega arith) (subst T (sym same) last.is)))
          (is.firsts s in_words));
    }

-- the number after one that has the state
pub next_is : (count : ℕ) (entries : List (Option Entry)) → AreEntries count entries → (state at : ℕ) (read : Option ℕ)
    → ((entry : Entry) → HasAt entries entry at → read ≡ kept entry.next) → HasAt (states_in entries) state at
    → IsLeastOf (HasAt (states_in entries) state) (at + 1) read
next_is count entries are state at read reads has =
    let here = entry_here entries state at has in
    let entry : Entry = here.0 in
    let of : IsEntry count (states_in entries) at entry = are at entry here.1 in
    let P : Option ℕ → Type 0 = λ r. IsLeastOf (HasAt (states_in entries) state) (at + 1) r in
    let S : ℕ → Type 0 = λ s. IsLeastOf (HasAt (states_in entries) s) (at + 1) (kept entry.next) in
    subst P (sym (reads entry here.1)) (subst S here.2 of.next)

-- the one that was reached is the last, where none comes after it before the bound
pub last_here : (these : ℕ → Type 0) (bound at : ℕ) → at < bound → these at
    → ((other : ℕ) → at + 1 ≤ other → other < bound → these other → ⊥) → IsLast these bound at
last_here these bound at before is none =
    record {
      before = before;
      is = is;
      last = λ other below there.
          elim (cases_lt at other) [
            | inl later ↦ absurd (none other (omega arith) below there)
            | inr up ↦ up
          ];
    }

-- the number before one that goes, along the numbers of its state
pub last_there : (trie : States) (entries : List (Option Entry)) → IsLookup trie entries → (number : ℕ) (entry : Entry)
    → HasAt entries entry number → (first before : ℕ) → first ≡ get_or trie.numbers entry.state 0
    → ((state : ℕ) → HasAt (states_in entries) state (first - 1) → IsLast (HasAt (states_in entries) state) number before)
    → IsLast (HasAt (states_in entries) entry.state) number before
last_there trie entries is number entry has first before same ensures =
    let of : IsEntry (length trie.words) (states_in entries) number entry = is.entries_are number entry has in
    let here : HasAt (states_in entries) entry.state number = state_here entries entry number has in
    let least : IsLeast (HasAt (states_in entries) entry.state) 0 (get_or trie.numbers entry.state 0 - 1) =
    least_kept (HasAt (states_in entries) entry.state) 0 (get_or trie.numbers entry.state 0) (is.firsts entry.state of.within)
    (keeps_here trie entries is entry.state number here) in
    let P : ℕ → Type 0 = λ k. HasAt (states_in entries) entry.state (k - 1) in
    ensures entry.state (subst P (sym same) least.is)
