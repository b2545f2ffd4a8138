-- The ends of states, when a number comes or goes and when there is a state more.
use Rattle.std.proofs.Common.{◌≡◌, ℕ, ◌<◌, ◌≤◌, ◌⊎◌, List, [], ◌∷◌, ◌++◌, length, get_or, set, drop, refl, sym, ap, ◌∙◌, subst, inl, inr, arith, length-set}
use Rattle.std.proofs.lemmas.List.{get_or-set_same, get_or-set_other, length_push, set-get_or}
use Rattle.std.proofs.lemmas.Bool.{cases_eq}
use Rattle.kb_word.specs.Words.{EndsWith}
use Rattle.kb_trie.specs.States.{AreWords, IsNoChild, word}
use Rattle.kb_trie.specs.Steps.{AreLinks, IsLink, IsStep}
use Rattle.kb_trie.specs.declared.ends.Ends.{Ends}
use Rattle.kb_trie.specs.Ends.{HasEnds, IsEnd}
use Rattle.kb_trie.specs.Walks.{IsAmong, IsFree, IsNumbered, IsWalk}
use Rattle.kb_trie.proofs.Among.{among_or_not}
use Rattle.kb_trie.proofs.Longest.{link_shorter}
use Rattle.kb_trie.proofs.Suffixes.{ends_all, ends_within, ends_shorter, ends_compare, ends_length, drop_ends, same_ends}
use Rattle.kb_trie.proofs.Walking.{reach}
use Rattle.kb_trie.proofs.Growing.{grown, next_word}
use Rattle.kb_trie.proofs.Words.{word_old, word_new, old_or_new}

-- a walk from a state that stops where there is a number
pub record Numbers (words : List (List ℕ)) (links numbers : List ℕ) (root : ℕ) (free stopped : List ℕ) : Type 0 where
  pub are : AreWords words
  pub links_are : AreLinks words links
  pub within : root < length words
  pub room : length words ≤ length numbers
  pub walk : IsWalk words links (IsNumbered numbers) root free stopped

-- another state keeps its number
kept : (numbers : List ℕ) (root number other : ℕ) → (other ≡ root → ⊥) → 0 < get_or (set numbers root number) other 0 → 0 < get_or numbers other 0
kept numbers root number other apart some = omega (arith, get_or-set_other numbers root other number 0 apart)

kept_back : (numbers : List ℕ) (root number other : ℕ) → (other ≡ root → ⊥) → 0 < get_or numbers other 0 → 0 < get_or (set numbers root number) other 0
kept_back numbers root number other apart some = omega (arith, get_or-set_other numbers root other number 0 apart)

-- a state that the walk reached has the root as its end, when that keeps a number
end_set_free : (words : List (List ℕ)) (numbers : List ℕ) (root number state : ℕ) → root < length words → root < length numbers → 0 < number
    → IsFree words (IsNumbered numbers) root state → IsEnd words (set numbers root number) state root
end_set_free words numbers root number state within room some free =
    record {
      within = within;
      ends = free.ends;
      keeps = λ positive. omega (arith, get_or-set_same numbers root number 0 room);
      longest = λ other in_words keeps ends.
          elim (cases_eq other root) [
            | inl same ↦
                let P : ℕ → Type 0 = λ s. EndsWith (word words root) (word words s) in
                subst P (sym same) (ends_all (word words root))
            | inr apart ↦
                elim (ends_compare (word words state) (word words root) (word words other) free.ends ends) [
                  | inl up ↦ up
                  | inr down ↦
                      absurd (free.none other other in_words ends down (record { keeps = kept numbers root number other apart keeps; is = refl }))
                ]
          ];
    }

-- another state keeps its end
end_set_other : (words : List (List ℕ)) (links numbers : List ℕ) (root number : ℕ) (free stopped : List ℕ)
    → Numbers words links numbers root free stopped → 0 < number → (state end : ℕ) → state < length words → (IsAmong free state → ⊥)
    → IsEnd words numbers state end → IsEnd words (set numbers root number) state end
end_set_other words links numbers root number free stopped has some state end within other is =
    record {
      within = is.within;
      ends = is.ends;
      keeps = λ positive.
          elim (cases_eq end root) [
            | inl same ↦
                omega (arith, ap (λ (s : ℕ). get_or (set numbers root number) s 0) same, get_or-set_same numbers root number 0 (omega (arith, has.room, has.within)))
            | inr apart ↦ kept_back numbers root number end apart (is.keeps positive)
          ];
      longest = λ one in_words keeps ends.
          elim (cases_eq one root) [
            | inl same ↦
                let P : ℕ → Type 0 = λ s. EndsWith (word words state) (word words s) in
                let Q : ℕ → Type 0 = λ s. EndsWith (word words end) (word words s) in
                elim (reach words has.are links has.links_are (IsNumbered numbers) root free stopped has.within has.walk state within (subst P same ends)) [
                  | inl among ↦ absurd (other among)
                  | inr blocked ↦
                      let note : IsNumbered numbers blocked.other blocked.noted = blocked.note in
                      subst Q (sym same)
                      (ends_within (word words end) (word words blocked.other) (word words root)
                      (is.longest blocked.other blocked.within note.keeps blocked.ends) blocked.above)
                ]
            | inr apart ↦ is.longest one in_words (kept numbers root number one apart keeps) ends
          ];
    }

-- the ends of all states, when the root keeps a number
pub ends_set : (words : List (List ℕ)) (links numbers ends ends' : List ℕ) (root number : ℕ) (free stopped : List ℕ)
    → Numbers words links numbers root free stopped → 0 < number
    → ((state : ℕ) → state < length words → IsEnd words numbers state (get_or ends state 0))
    → ((state : ℕ) → IsAmong free state → get_or ends' state 0 ≡ root)
    → ((state : ℕ) → (IsAmong free state → ⊥) → get_or ends' state 0 ≡ get_or ends state 0)
    → (state : ℕ) → state < length words → IsAmong free state ⊎ (IsAmong free state → ⊥)
    → IsEnd words (set numbers root number) state (get_or ends' state 0)
ends_set words links numbers ends ends' root number free stopped has some are moved others state within (inl among) =
    let P : ℕ → Type 0 = λ e. IsEnd words (set numbers root number) state e in
    subst P (sym (moved state among))
    (end_set_free words numbers root number state has.within (omega (arith, has.within, has.room)) some (has.walk.free_each state among))
ends_set words links numbers ends ends' root number free stopped has some are moved others state within (inr other) =
    let P : ℕ → Type 0 = λ e. IsEnd words (set numbers root number) state e in
    subst P (sym (others state other))
    (end_set_other words links numbers root number free stopped has some state (get_or ends state 0) within other (are state within))

-- without its number the root is no state with a number
cleared : (numbers : List ℕ) (root other : ℕ) → root < length numbers → 0 < get_or (set numbers root 0) other 0 → other ≡ root → ⊥
cleared numbers root other room some same =
    omega (arith, ap (λ (s : ℕ). get_or (set numbers root 0) s 0) same, get_or-set_same numbers root 0 0 room)

-- a state that the walk reached has the end of the root's link, when the root keeps no number any more
end_clear_free : (words : List (List ℕ)) → AreWords words → (numbers : List ℕ) (root link state end : ℕ) → root < length words → root < length numbers
    → IsFree words (IsNumbered (set numbers root 0)) root state → IsLink words root link → IsEnd words numbers link end
    → IsEnd words (set numbers root 0) state end
end_clear_free words are numbers root link state end within room free link_is is =
    let r : List ℕ = word words root in
    let l : List ℕ = word words link in
    let falls : EndsWith r l = ends_within r (drop 1 r) l (drop_ends r) link_is.longest.ends in
    record {
      within = is.within;
      ends =
          ends_within (word words state) r (word words end) free.ends
          (ends_within r l (word words end) falls is.ends);
      keeps = λ positive.
          kept_back numbers root 0 end
          (λ same.
          let some : 0 < root = omega arith in
          omega (arith, link_shorter words are root link some within link_is, ends_length l (word words end) is.ends, ap (λ (s : ℕ). length (word words s)) same))
          (is.keeps positive);
      longest = λ other in_words keeps ends.
          let apart : other ≡ root → ⊥ = cleared numbers root other room keeps in
          let some : 0 < get_or numbers other 0 = kept numbers root 0 other apart keeps in
          elim (ends_compare (word words state) r (word words other) free.ends ends) [
            | inl up ↦
                elim (ends_shorter r (word words other) up) [
                  | inl same ↦ absurd (apart (are.apart other root in_words within same))
                  | inr shorter ↦ is.longest other in_words some (link_is.longest.longest other in_words shorter)
                ]
            | inr down ↦ absurd (free.none other other in_words ends down (record { keeps = keeps; is = refl }))
          ];
    }

end_clear_other : (words : List (List ℕ)) (links numbers : List ℕ) (root : ℕ) (free stopped : List ℕ) → root < length numbers
    → Numbers words links (set numbers root 0) root free stopped → (state end : ℕ) → state < length words → (IsAmong free state → ⊥)
    → IsEnd words numbers state end → IsEnd words (set numbers root 0) state end
end_clear_other words links numbers root free stopped room has state end within other is =
    record {
      within = is.within;
      ends = is.ends;
      keeps = λ positive.
          kept_back numbers root 0 end
          (λ same.
          let P : ℕ → Type 0 = λ s. EndsWith (word words state) (word words s) in
          elim (reach words has.are links has.links_are (IsNumbered (set numbers root 0)) root free stopped has.within has.walk state within (subst P same is.ends)) [
            | inl among ↦ other among
            | inr blocked ↦
                let note : IsNumbered (set numbers root 0) blocked.other blocked.noted = blocked.note in
                let apart : blocked.other ≡ root → ⊥ = cleared numbers root blocked.other room note.keeps in
                let Q : ℕ → Type 0 = λ s. EndsWith (word words s) (word words blocked.other) in
                let up : EndsWith (word words root) (word words blocked.other) =
                subst Q same (is.longest blocked.other blocked.within (kept numbers root 0 blocked.other apart note.keeps) blocked.ends) in
                apart (has.are.apart blocked.other root blocked.within has.within (same_ends (word words blocked.other) (word words root) blocked.above up))
          ])
          (is.keeps positive);
      longest = λ one in_words keeps ends.
          is.longest one in_words (kept numbers root 0 one (cleared numbers root one room keeps) keeps) ends;
    }

-- the ends of all states, when the root keeps no number any more
pub ends_clear : (words : List (List ℕ)) (links numbers ends ends' : List ℕ) (root : ℕ) (free stopped : List ℕ) → root < length numbers
    → Numbers words links (set numbers root 0) root free stopped
    → ((state : ℕ) → state < length words → IsEnd words numbers state (get_or ends state 0))
    → ((state : ℕ) → IsAmong free state → get_or ends' state 0 ≡ get_or ends (get_or links root 0) 0)
    → ((state : ℕ) → (IsAmong free state → ⊥) → get_or ends' state 0 ≡ get_or ends state 0)
    → (state : ℕ) → state < length words → IsAmong free state ⊎ (IsAmong free state → ⊥)
    → IsEnd words (set numbers root 0) state (get_or ends' state 0)
ends_clear words links numbers ends ends' root free stopped room has are moved others state within (inl among) =
    let link : ℕ = get_or links root 0 in
    let link_is : IsLink words root link = has.links_are root has.within in
    let P : ℕ → Type 0 = λ e. IsEnd words (set numbers root 0) state e in
    subst P (sym (moved state among))
    (end_clear_free words has.are numbers root link state (get_or ends link 0) has.within room (has.walk.free_each state among) link_is (are link link_is.within))
ends_clear words links numbers ends ends' root free stopped room has are moved others state within (inr other) =
    let P : ℕ → Type 0 = λ e. IsEnd words (set numbers root 0) state e in
    subst P (sym (others state other))
    (end_clear_other words links numbers root free stopped room has state (get_or ends state 0) within other (are state within))

-- another number in place of one
pub end_renumbered : (words : List (List ℕ)) (numbers : List ℕ) (root number state end : ℕ) → root < length numbers → 0 < get_or numbers root 0
    → 0 < number → IsEnd words numbers state end → IsEnd words (set numbers root number) state end
end_renumbered words numbers root number state end room old some is =
    record {
      within = is.within;
      ends = is.ends;
      keeps = λ positive.
          elim (cases_eq end root) [
            | inl same ↦ omega (arith, ap (λ (s : ℕ). get_or (set numbers root number) s 0) same, get_or-set_same numbers root number 0 room)
            | inr apart ↦ kept_back numbers root number end apart (is.keeps positive)
          ];
      longest = λ one in_words keeps ends.
          elim (cases_eq one root) [
            | inl same ↦ is.longest one in_words (omega (arith, ap (λ (s : ℕ). get_or numbers s 0) same)) ends
            | inr apart ↦ is.longest one in_words (kept numbers root number one apart keeps) ends
          ];
    }

-- the end of a state of before, with a state more, which keeps no number
end_old : (words : List (List ℕ)) (next : List ℕ) (numbers : List ℕ) (state end : ℕ) → length words < length numbers → state < length words
    → IsEnd words numbers state end → IsEnd (words ++ next ∷ []) (set numbers (length words) 0) state end
end_old words next numbers state end room within is =
    let old_state : word (words ++ next ∷ []) state ≡ word words state = word_old words next state within in
    let old_end : word (words ++ next ∷ []) end ≡ word words end = word_old words next end is.within in
    let P : List ℕ → Type 0 = λ v. EndsWith v (word (words ++ next ∷ []) end) in
    let Q : List ℕ → Type 0 = λ v. EndsWith (word words state) v in
    record {
      within = omega (arith, is.within, length_push words next);
      ends = subst P (sym old_state) (subst Q (sym old_end) is.ends);
      keeps = λ positive. kept_back numbers (length words) 0 end (λ same. omega (arith, is.within)) (is.keeps positive);
      longest = λ other in_all keeps ends.
          elim (old_or_new words next other in_all) [
            | inl old ↦
                let same : word (words ++ next ∷ []) other ≡ word words other = word_old words next other old in
                let R : List ℕ → Type 0 = λ v. EndsWith v (word (words ++ next ∷ []) other) in
                let S : List ℕ → Type 0 = λ v. EndsWith (word words state) v in
                let T : List ℕ → Type 0 = λ v. EndsWith (word words end) v in
                subst R (sym old_end) (subst T (sym same)
                (is.longest other old (kept numbers (length words) 0 other (λ is_new. omega arith) keeps) (subst S same (subst R old_state ends))))
            | inr new ↦ absurd (cleared numbers (length words) other room keeps (sym new))
          ];
    }

-- the end of the new state is that of its link
end_new : (words : List (List ℕ)) (numbers : List ℕ) (root letter link end : ℕ) → length words < length numbers → IsNoChild words root letter
    → IsStep words root letter link → IsEnd words numbers link end
    → IsEnd (grown words root letter) (set numbers (length words) 0) (length words) end
end_new words numbers root letter link end room none step is =
    let next : List ℕ = next_word words root letter in
    let l : List ℕ = word words link in
    let own : word (grown words root letter) (length words) ≡ next = word_new words next (length words) refl in
    let old_end : word (grown words root letter) end ≡ word words end = word_old words next end is.within in
    let P : List ℕ → Type 0 = λ v. EndsWith v (word (words ++ (word words root ++ letter ∷ []) ∷ []) end) in
    let Q : List ℕ → Type 0 = λ v. EndsWith (word words root ++ letter ∷ []) v in
    record {
      within = omega (arith, is.within, length_push words next);
      ends = subst P (sym own) (subst Q (sym old_end) (ends_within next l (word words end) step.longest.ends is.ends));
      keeps = λ positive. kept_back numbers (length words) 0 end (λ same. omega (arith, is.within)) (is.keeps positive);
      longest = λ other in_all keeps ends.
          elim (old_or_new words next other in_all) [
            | inl old ↦
                let same : word (grown words root letter) other ≡ word words other = word_old words next other old in
                let R : List ℕ → Type 0 = λ v. EndsWith v (word (words ++ (word words root ++ letter ∷ []) ∷ []) other) in
                let T : List ℕ → Type 0 = λ v. EndsWith (word words end) v in
                subst R (sym old_end) (subst T (sym same)
                (is.longest other old (kept numbers (length words) 0 other (λ is_new. omega arith) keeps)
                (step.longest.longest other old (subst Q same (subst R own ends)))))
            | inr new ↦ absurd (cleared numbers (length words) other room keeps (sym new))
          ];
    }

-- the ends of all states, with a state more
pub ends_grow : (words : List (List ℕ)) (numbers ends : List ℕ) (root letter link : ℕ) → length words < length numbers → length words < length ends
    → IsNoChild words root letter → IsStep words root letter link
    → ((state : ℕ) → state < length words → IsEnd words numbers state (get_or ends state 0))
    → (state : ℕ) → state < length (grown words root letter)
    → IsEnd (grown words root letter) (set numbers (length words) 0) state (get_or (set ends (length words) (get_or ends link 0)) state 0)
ends_grow words numbers ends root letter link room end_room none step are state in_all =
    let next : List ℕ = next_word words root letter in
    let P : ℕ → Type 0 = λ e. IsEnd (words ++ (word words root ++ letter ∷ []) ∷ []) (set numbers (length words) 0) state e in
    elim (old_or_new words next state in_all) [
      | inl old ↦
          subst P (sym (get_or-set_other ends (length words) state (get_or ends link 0) 0 (λ same. omega arith)))
          (end_old words next numbers state (get_or ends state 0) room old (are state old))
      | inr new ↦
          let value : get_or (set ends (length words) (get_or ends link 0)) state 0 ≡ get_or ends link 0 =
          ap (λ (s : ℕ). get_or (set ends (length words) (get_or ends link 0)) s 0) (sym new)
          ∙ get_or-set_same ends (length words) (get_or ends link 0) 0 end_room in
          let Q : ℕ → Type 0 = λ s. IsEnd (words ++ (word words root ++ letter ∷ []) ∷ []) (set numbers (length words) 0) s (get_or ends link 0) in
          subst P (sym value) (subst Q new (end_new words numbers root letter link (get_or ends link 0) room none step (are link step.within)))
    ]

-- whether a state keeps a number, as if another one kept none
pub numbered_there : (numbers : List ℕ) (except state : ℕ) → (state ≡ except → ⊥) → 0 < get_or numbers state 0
    → IsNumbered (set numbers except 0) state state
numbered_there numbers except state apart some = record { keeps = kept_back numbers except 0 state apart some; is = refl }

pub not_numbered : (numbers : List ℕ) (except state noted : ℕ) → state < length numbers → (state ≡ except) ⊎ (get_or numbers state 0 ≡ 0)
    → IsNumbered (set numbers except 0) state noted → ⊥
not_numbered numbers except state noted room (inl same) is =
    let P : ℕ → Type 0 = λ s. s < length numbers in
    cleared numbers except state (subst P same room) is.keeps same
not_numbered numbers except state noted room (inr none) is =
    elim (cases_eq state except) [
      | inl same ↦ let P : ℕ → Type 0 = λ s. s < length numbers in cleared numbers except state (subst P same room) is.keeps same
      | inr apart ↦ omega (arith, kept numbers except 0 state apart is.keeps)
    ]

-- of the empty word alone, with no number
pub ends_root_alone : (numbers ends : List ℕ) → numbers ≡ 0 ∷ [] → ends ≡ 0 ∷ [] → (state : ℕ) → state < 1
    → IsEnd ([] ∷ []) numbers state (get_or ends state 0)
ends_root_alone numbers ends is_numbers is_ends state within =
    let root : 0 ≡ state = omega arith in
    let value : get_or ends 0 0 ≡ 0 = ap (λ (es : List ℕ). get_or es 0 0) is_ends in
    let P : ℕ → Type 0 = λ s. IsEnd ([] ∷ []) numbers s (get_or ends s 0) in
    let Q : ℕ → Type 0 = λ e. IsEnd ([] ∷ []) numbers 0 e in
    let none : get_or numbers 0 0 ≡ 0 = ap (λ (ns : List ℕ). get_or ns 0 0) is_numbers in
    subst P root (subst Q (sym value) (record {
      within = omega arith;
      ends = ends_all [];
      keeps = λ some. absurd (omega arith);
      longest = λ other in_words keeps there.
          let zero : other ≡ 0 = omega arith in
          absurd (omega (arith, ap (λ (s : ℕ). get_or numbers s 0) zero));
    }))

-- the numbers are kept in another list
pub end_same : (words : List (List ℕ)) (numbers numbers' : List ℕ) (state end : ℕ) → ((place : ℕ) → get_or numbers' place 0 ≡ get_or numbers place 0)
    → IsEnd words numbers state end → IsEnd words numbers' state end
end_same words numbers numbers' state end same is =
    record {
      within = is.within;
      ends = is.ends;
      keeps = λ some. omega (arith, same end, is.keeps some);
      longest = λ other within keeps ends. is.longest other within (omega (arith, same other)) ends;
    }

-- the numbers and ends of all states, with a state more
pub ends_added : (words words' : List (List ℕ)) (root letter link count : ℕ) (ends ends' : Ends) → words' ≡ grown words root letter
    → count ≡ length words → count < length ends.numbers.items → count < length ends.ends.items → IsNoChild words root letter
    → IsStep words root letter link → HasEnds words ends → ends'.numbers.items ≡ set ends.numbers.items count 0
    → ends'.ends.items ≡ set ends.ends.items count (get_or ends.ends.items link 0) → HasEnds words' ends'
ends_added words words' root letter link count ends ends' grows counted room end_room none step has numbers_are ends_are =
    let next : List ℕ = next_word words root letter in
    let numbers : List ℕ = ends.numbers.items in
    let old : List ℕ = ends.ends.items in
    let numbers_is : ends'.numbers.items ≡ set numbers (length words) 0 = numbers_are ∙ ap (λ (n : ℕ). set numbers n 0) counted in
    let ends_is : ends'.ends.items ≡ set old (length words) (get_or old link 0) = ends_are ∙ ap (λ (n : ℕ). set old n (get_or old link 0)) counted in
    let H : List (List ℕ) → Type 0 = λ ws. HasEnds ws ends' in
    subst H (sym grows) (record {
      number_room = omega (arith, length_push words next, ap length numbers_is, length-set numbers (length words) 0);
      end_room = omega (arith, length_push words next, ap length ends_is, length-set old (length words) (get_or old link 0));
      each = λ state within.
          let P : List ℕ → Type 0 = λ ns. IsEnd (words ++ (word words root ++ letter ∷ []) ∷ []) ns state (get_or ends'.ends.items state 0) in
          let Q : List ℕ → Type 0 = λ es. IsEnd (words ++ (word words root ++ letter ∷ []) ∷ []) (set numbers (length words) 0) state (get_or es state 0) in
          subst P (sym numbers_is) (subst Q (sym ends_is)
          (ends_grow words numbers old root letter link (omega arith) (omega arith) none step has.each state within));
    })

-- the numbers and ends of all states, when a state keeps another number
pub ends_changed : (words : List (List ℕ)) (root number end : ℕ) (free free' : List ℕ) (ends ends' : Ends) → HasEnds words ends → free' ≡ free
    → ends'.numbers.items ≡ set ends.numbers.items root number → length ends'.ends.items ≡ length ends.ends.items
    → ((state : ℕ) → IsAmong free' state → get_or ends'.ends.items state 0 ≡ end)
    → ((state : ℕ) → (IsAmong free' state → ⊥) → get_or ends'.ends.items state 0 ≡ get_or ends.ends.items state 0)
    → (((state : ℕ) → IsAmong free state → get_or ends'.ends.items state 0 ≡ end)
    → ((state : ℕ) → (IsAmong free state → ⊥) → get_or ends'.ends.items state 0 ≡ get_or ends.ends.items state 0)
    → (state : ℕ) → state < length words → IsAmong free state ⊎ (IsAmong free state → ⊥)
    → IsEnd words (set ends.numbers.items root number) state (get_or ends'.ends.items state 0))
    → HasEnds words ends'
ends_changed words root number end free free' ends ends' has is_free numbers_are long moved others each =
    let M : List ℕ → Type 0 = λ f. (state : ℕ) → IsAmong f state → get_or ends'.ends.items state 0 ≡ end in
    let O : List ℕ → Type 0 = λ f. (state : ℕ) → (IsAmong f state → ⊥) → get_or ends'.ends.items state 0 ≡ get_or ends.ends.items state 0 in
    record {
      number_room = omega (arith, has.number_room, ap length numbers_are, length-set ends.numbers.items root number);
      end_room = omega (arith, has.end_room, long);
      each = λ state within.
          let P : List ℕ → Type 0 = λ ns. IsEnd words ns state (get_or ends'.ends.items state 0) in
          subst P (sym numbers_are) (each (subst M is_free moved) (subst O is_free others) state within (among_or_not free state));
    }

pub numbers_walk : (words : List (List ℕ)) (links numbers numbers' : List ℕ) (root : ℕ) (free stopped : List ℕ) → AreWords words → AreLinks words links
    → root < length words → length words ≤ length numbers → numbers' ≡ numbers → IsWalk words links (IsNumbered (set numbers' root 0)) root free stopped
    → Numbers words links (set numbers root 0) root free stopped
numbers_walk words links numbers numbers' root free stopped are linked within room same walk =
    let W : List ℕ → Type 0 = λ ns. IsWalk words links (IsNumbered (set ns root 0)) root free stopped in
    record { are = are; links_are = linked; within = within; room = omega (arith, length-set numbers root 0); walk = subst W same walk }

-- where the root keeps no number, that is a walk by the numbers as they are
pub numbers_none : (words : List (List ℕ)) (links numbers : List ℕ) (root : ℕ) (free stopped : List ℕ) → get_or numbers root 0 ≡ 0
    → Numbers words links (set numbers root 0) root free stopped → Numbers words links numbers root free stopped
numbers_none words links numbers root free stopped none has =
    let same : set numbers root 0 ≡ numbers = ap (λ (n : ℕ). set numbers root n) (sym none) ∙ set-get_or numbers root 0 in
    let N : List ℕ → Type 0 = λ ns. Numbers words links ns root free stopped in
    subst N same has

-- the same numbers and ends
pub ends_copied : (words : List (List ℕ)) (ends ends' : Ends) → ends'.numbers.items ≡ ends.numbers.items → ends'.ends.items ≡ ends.ends.items
    → HasEnds words ends → HasEnds words ends'
ends_copied words ends ends' numbers same has =
    record {
      number_room = omega (arith, has.number_room, ap length numbers);
      end_room = omega (arith, has.end_room, ap length same);
      each = λ state within.
          let P : List ℕ → Type 0 = λ ns. IsEnd words ns state (get_or ends'.ends.items state 0) in
          let Q : List ℕ → Type 0 = λ es. IsEnd words ends.numbers.items state (get_or es state 0) in
          subst P (sym numbers) (subst Q (sym same) (has.each state within));
    }
