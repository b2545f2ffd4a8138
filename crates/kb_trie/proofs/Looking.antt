-- The left sides that end a state's word.
use Rattle.std.proofs.Common.{◌≡◌, ℕ, ◌+◌, ◌-◌, ◌<◌, ◌≤◌, ◌⊎◌, List, [], length, get_or, drop, Option, Some, None, IfSome, sym, ap, ◌∙◌, subst, inl, inr, arith}
use Rattle.std.proofs.lemmas.Bool.{cases_lt}
use Rattle.kb_word.specs.Words.{EndsWith}
use Rattle.kb_trie.specs.declared.lookup.Entry.{Entry}
use Rattle.kb_trie.specs.States.{States, word}
use Rattle.kb_trie.specs.Steps.{IsLink}
use Rattle.kb_trie.specs.Ends.{IsEnd}
use Rattle.kb_trie.specs.LeftSides.{AreLefts, HasAt, HasEnding, IsLeast, IsLeastOf, IsLongestLeft}
use Rattle.kb_trie.specs.Lookups.{IsEntry, IsLookup, kept, lefts_of, states_in}
use Rattle.kb_trie.proofs.Entries.{AtState, are_lefts, at_state, entry_here, keeps_here, left_here, state_there, state_within}
use Rattle.kb_trie.proofs.Least.{kept_none, least_kept, least_same}
use Rattle.kb_trie.proofs.Longest.{link_shorter}
use Rattle.kb_trie.proofs.Suffixes.{drop_ends, ends_length, ends_of_nil, ends_shorter, ends_within}

-- the least number whose left side is the state's word
pub first_at : (trie : States) (entries : List (Option Entry)) → IsLookup trie entries → (state : ℕ) (read : Option ℕ) → state < length trie.words
    → read ≡ kept (get_or trie.numbers state 0)
    → IsLeastOf (HasAt (lefts_of trie.words (states_in entries)) (word trie.words state)) 0 read
first_at trie entries is state read within same =
    let P : Option ℕ → Type 0 = λ r. IsLeastOf (HasAt (lefts_of trie.words (states_in entries)) (word trie.words state)) 0 r in
    subst P (sym same)
    (least_same (HasAt (states_in entries) state) (HasAt (lefts_of trie.words (states_in entries)) (word trie.words state)) 0
    (kept (get_or trie.numbers state 0)) (λ number has. left_here trie.words (states_in entries) state number has)
    (λ number has. state_there trie entries is state number within has) (is.firsts state within))

-- the least number after this one that has the same left side
pub next_at : (trie : States) (entries : List (Option Entry)) → IsLookup trie entries → (number : ℕ) (read : Option ℕ)
    → ((entry : Entry) → HasAt entries entry number → read ≡ kept entry.next) → (left : List ℕ)
    → HasAt (lefts_of trie.words (states_in entries)) left number
    → IsLeastOf (HasAt (lefts_of trie.words (states_in entries)) left) (number + 1) read
next_at trie entries is number read same left has =
    let at : AtState trie.words (states_in entries) left number = at_state trie entries is left number has in
    let here = entry_here entries at.state number at.has in
    let entry : Entry = here.0 in
    let of : IsEntry (length trie.words) (states_in entries) number entry = is.entries_are number entry here.1 in
    let P : Option ℕ → Type 0 = λ r. IsLeastOf (HasAt (lefts_of trie.words (states_in entries)) left) (number + 1) r in
    let S : ℕ → Type 0 = λ s. IsLeastOf (HasAt (states_in entries) s) (number + 1) (kept entry.next) in
    subst P (sym (same entry here.1))
    (least_same (HasAt (states_in entries) at.state) (HasAt (lefts_of trie.words (states_in entries)) left) (number + 1) (kept entry.next)
    (λ other there.
    let L : List ℕ → Type 0 = λ l. HasAt (lefts_of trie.words (states_in entries)) l other in
    subst L at.is (left_here trie.words (states_in entries) at.state other there))
    (λ other there.
    let L : List ℕ → Type 0 = λ l. HasAt (lefts_of trie.words (states_in entries)) l other in
    state_there trie entries is at.state other at.within (subst L (sym at.is) there))
    (subst S here.2 of.next))

-- the end of a state is that among the left sides
pub longest_left : (trie : States) (entries : List (Option Entry)) → IsLookup trie entries → (state end : ℕ)
    → IsEnd trie.words trie.numbers state end → IsLongestLeft trie.words (lefts_of trie.words (states_in entries)) state end
longest_left trie entries is state end end_is =
    record {
      within = end_is.within;
      ends = end_is.ends;
      left = λ some.
          let n : ℕ = get_or trie.numbers end 0 in
          let least : IsLeast (HasAt (states_in entries) end) 0 (n - 1) =
          least_kept (HasAt (states_in entries) end) 0 n (is.firsts end end_is.within) (end_is.keeps some) in
          (n - 1, left_here trie.words (states_in entries) end (n - 1) least.is);
      longest = λ number left has ends.
          let at : AtState trie.words (states_in entries) left number = at_state trie entries is left number has in
          let P : List ℕ → Type 0 = λ l. EndsWith (word trie.words state) l in
          let Q : List ℕ → Type 0 = λ l. EndsWith (word trie.words end) l in
          subst Q at.is
          (end_is.longest at.state at.within (keeps_here trie entries is at.state number at.has) (subst P (sym at.is) ends));
    }

-- the number is not less than the least, which is there
abbrev pub IsUpTo : Option ℕ → ℕ → Type 0
IsUpTo None number = ⊥
IsUpTo (Some least) number = least ≤ number

-- Each left side that ends the word ends the state's word too, or its number is not less than the least so far.
pub record Looking (trie : States) (lefts : List (Option (List ℕ))) (w : List ℕ) (end : ℕ) (least : Option ℕ) : Type 0 where
  pub within : end < length trie.words
  pub keeps : 0 < end → 0 < get_or trie.numbers end 0
  pub found : IfSome least (HasEnding lefts w)
  pub ends : EndsWith w (word trie.words end)
  pub rest : (number : ℕ) → HasEnding lefts w number → HasEnding lefts (word trie.words end) number ⊎ IsUpTo least number

pub looking_start : (trie : States) (entries : List (Option Entry)) → IsLookup trie entries → (state end : ℕ)
    → IsEnd trie.words trie.numbers state end
    → Looking trie (lefts_of trie.words (states_in entries)) (word trie.words state) end None
looking_start trie entries is state end end_is =
    let longest : IsLongestLeft trie.words (lefts_of trie.words (states_in entries)) state end = longest_left trie entries is state end end_is in
    record {
      within = end_is.within;
      keeps = end_is.keeps;
      found = tt;
      ends = end_is.ends;
      rest = λ number ending.
          inl (record { left = ending.left; has = ending.has; ends = longest.longest number ending.left ending.has ending.ends });
    }

upto_lower : (least : Option ℕ) (next number : ℕ) → IfSome least (λ other. next ≤ other) → IsUpTo least number → next ≤ number
upto_lower None next number lower upto = absurd upto
upto_lower (Some least) next number lower upto = omega (arith, lower, upto)

-- the state at which the least so far is looked for next has a number
pub looking_first : (trie : States) (entries : List (Option Entry)) → IsLookup trie entries → (end first : ℕ) → end < length trie.words
    → Some first ≡ kept (get_or trie.numbers end 0) → IsLeast (HasAt (states_in entries) end) 0 first
looking_first trie entries is end first within same =
    let P : Option ℕ → Type 0 = λ r. IsLeastOf (HasAt (states_in entries) end) 0 r in
    subst P (sym same) (is.firsts end within)

-- one state further
pub looking_more : (trie : States) (entries : List (Option Entry)) → IsLookup trie entries → (w : List ℕ) (end first link after : ℕ)
    (least : Option ℕ) (next : ℕ) → Looking trie (lefts_of trie.words (states_in entries)) w end least
    → Some first ≡ kept (get_or trie.numbers end 0) → IsLink trie.words end link → IsEnd trie.words trie.numbers link after
    → next ≤ first → IfSome least (λ other. next ≤ other) → (next ≡ first) ⊎ (least ≡ Some next)
    → Looking trie (lefts_of trie.words (states_in entries)) w after (Some next)
looking_more trie entries is w end first link after least next looking same link_is end_is low lower choice =
    let u : List ℕ = word trie.words end in
    let v : List ℕ = word trie.words link in
    let firsts : IsLeast (HasAt (states_in entries) end) 0 first = looking_first trie entries is end first looking.within same in
    let falls : EndsWith u v = ends_within u (drop 1 u) v (drop_ends u) link_is.longest.ends in
    let longest : IsLongestLeft trie.words (lefts_of trie.words (states_in entries)) link after = longest_left trie entries is link after end_is in
    record {
      within = end_is.within;
      keeps = end_is.keeps;
      found = elim choice [
        | inl new ↦
            let P : ℕ → Type 0 = λ n. HasEnding (lefts_of trie.words (states_in entries)) w n in
            subst P (sym new)
            (record { left = u; has = left_here trie.words (states_in entries) end first firsts.is; ends = looking.ends })
        | inr old ↦
            let P : Option ℕ → Type 0 = λ o. IfSome o (HasEnding (lefts_of trie.words (states_in entries)) w) in
            subst P old looking.found
      ];
      ends = ends_within w u (word trie.words after) looking.ends (ends_within u v (word trie.words after) falls end_is.ends);
      rest = λ number ending.
          elim (looking.rest number ending) [
            | inl below ↦
                elim (ends_shorter u below.left below.ends) [
                  | inl whole ↦
                      let P : List ℕ → Type 0 = λ l. HasAt (lefts_of trie.words (states_in entries)) l number in
                      let has : HasAt (states_in entries) end number =
                      state_there trie entries is end number looking.within (subst P whole below.has) in
                      inr (omega (arith, firsts.least number (omega arith) has))
                  | inr shorter ↦
                      let at : AtState trie.words (states_in entries) below.left number = at_state trie entries is below.left number below.has in
                      let P : List ℕ → Type 0 = λ l. EndsWith (drop 1 (word trie.words end)) l in
                      let Q : List ℕ → Type 0 = λ l. EndsWith (word trie.words link) l in
                      let falls_to : EndsWith v below.left =
                      subst Q at.is (link_is.longest.longest at.state at.within (subst P (sym at.is) shorter)) in
                      inl (record { left = below.left; has = below.has; ends = longest.longest number below.left below.has falls_to })
                ]
            | inr upto ↦ inr (upto_lower least next number lower upto)
          ];
    }

-- the words get shorter
pub looking_shorter : (trie : States) (entries : List (Option Entry)) → IsLookup trie entries → (end first link after : ℕ) → end < length trie.words
    → Some first ≡ kept (get_or trie.numbers end 0) → IsLink trie.words end link → IsEnd trie.words trie.numbers link after
    → length (word trie.words after) < length (word trie.words end)
looking_shorter trie entries is end first link after within same link_is end_is =
    let firsts : IsLeast (HasAt (states_in entries) end) 0 first = looking_first trie entries is end first within same in
    let there = state_within trie entries is end first firsts.is in
    omega (arith, link_shorter trie.words is.words end link there.0 within link_is, ends_length (word trie.words link) (word trie.words after) end_is.ends)

least_of_found : (these : ℕ → Type 0) (least : Option ℕ) → IfSome least these → ((number : ℕ) → these number → IsUpTo least number)
    → IsLeastOf these 0 least
least_of_found these None found upto = λ number behind is. upto number is
least_of_found these (Some least) found upto =
    record { behind = omega arith; is = found; least = λ other behind is. upto other is }

-- at state 0 no left side is left
pub looking_all : (trie : States) (entries : List (Option Entry)) → IsLookup trie entries → (w : List ℕ) (end : ℕ) (least : Option ℕ)
    → Looking trie (lefts_of trie.words (states_in entries)) w end least → None ≡ kept (get_or trie.numbers end 0)
    → IsLeastOf (HasEnding (lefts_of trie.words (states_in entries)) w) 0 least
looking_all trie entries is w end least looking same =
    let none : get_or trie.numbers end 0 ≡ 0 = kept_none (get_or trie.numbers end 0) (sym same) in
    let root : end ≡ 0 = elim (cases_lt 0 end) [
      | inl some ↦ absurd (omega (arith, looking.keeps some))
      | inr up ↦ omega arith
    ] in
    let empty : word trie.words end ≡ [] = ap (word trie.words) root ∙ is.words.root in
    let lefts : AreLefts trie.words (lefts_of trie.words (states_in entries)) = are_lefts trie entries is in
    least_of_found (HasEnding (lefts_of trie.words (states_in entries)) w) least looking.found
    (λ number ending.
    elim (looking.rest number ending) [
      | inl below ↦
          let P : List ℕ → Type 0 = λ u. EndsWith u below.left in
          let left : below.left ≡ [] = ends_of_nil below.left (subst P empty below.ends) in
          let Q : List ℕ → Type 0 = λ l. HasAt (lefts_of trie.words (states_in entries)) l number in
          absurd (lefts.some number (subst Q left below.has))
      | inr upto ↦ upto
    ])
