-- The automaton with a state more.
use Rattle.std.proofs.Common.{◌≡◌, ℕ, ◌+◌, ◌*◌, ◌<◌, ◌≤◌, List, [], ◌∷◌, ◌++◌, length, get_or, drop, refl, sym, ap, ◌∙◌, subst, inl, inr, arith}
use Rattle.std.proofs.lemmas.List.{length_push, same_from_push}
use Rattle.std.proofs.lemmas.Bool.{cases_lt, cases_eq}
use Rattle.kb_word.specs.Words.{EndsWith}
use Rattle.kb_trie.specs.States.{AreWords, IsChild, IsLonger, IsNoChild, word}
use Rattle.kb_trie.specs.Steps.{AreLinks, AreSteps, IsLink, IsLongestSuffix, IsStep}
use Rattle.kb_trie.specs.Walks.{IsAmong, IsFree, IsNoted, IsWalk}
use Rattle.kb_trie.proofs.Among.{among_or_not}
use Rattle.kb_trie.proofs.Longest.{ends_cases, some_length, drop_push, step_linked, step_by, link_by}
use Rattle.kb_trie.proofs.Suffixes.{ends_all, ends_within, ends_push, ends_pop, ends_shorter, ends_spelled, ends_compare, ends_length, ends_no_longer, drop_ends}
use Rattle.kb_trie.proofs.Walking.{IsBlocked, reach}
use Rattle.kb_trie.proofs.Words.{word_old, word_new, old_or_new, words_grow}

-- a walk stops at the states that have a child by the letter
abbrev pub HasChild : List (List ℕ) → ℕ → ℕ → ℕ → Type 0
HasChild words letter state child = IsChild words state letter child

-- what the walk from a state found, when the state's word with the letter comes
pub record Comes (words : List (List ℕ)) (links : List ℕ) (root letter : ℕ) (free children : List ℕ) : Type 0 where
  pub are : AreWords words
  pub links_are : AreLinks words links
  pub within : root < length words
  pub none : IsNoChild words root letter
  pub walk : IsWalk words links (HasChild words letter) root free children

-- the word that comes
abbrev pub next_word : List (List ℕ) → ℕ → ℕ → List ℕ
next_word words root letter = word words root ++ letter ∷ []

abbrev pub grown : List (List ℕ) → ℕ → ℕ → List (List ℕ)
grown words root letter = words ++ (word words root ++ letter ∷ []) ∷ []

-- the longest suffix stays, unless the new word is a longer one
pub longest_kept : (words : List (List ℕ)) (next w u : List ℕ) → IsLongestSuffix words w u → (EndsWith w next → EndsWith u next)
    → IsLongestSuffix (words ++ next ∷ []) w u
longest_kept words next w u is kept =
    record {
      ends = is.ends;
      longest = λ state within ends.
          let P : List ℕ → Type 0 = λ v. EndsWith w v in
          let Q : List ℕ → Type 0 = λ v. EndsWith u v in
          elim (old_or_new words next state within) [
            | inl old ↦
                let same : word (words ++ next ∷ []) state ≡ word words state = word_old words next state old in
                subst Q (sym same) (is.longest state old (subst P same ends))
            | inr new ↦
                let same : word (words ++ next ∷ []) state ≡ next = word_new words next state new in
                subst Q (sym same) (kept (subst P same ends))
          ];
    }

-- the new word is the longest suffix, where it is longer than those of before
longest_new : (words : List (List ℕ)) (next w : List ℕ) → EndsWith w next
    → ((state : ℕ) → state < length words → EndsWith w (word words state) → EndsWith next (word words state))
    → IsLongestSuffix (words ++ next ∷ []) w next
longest_new words next w ends longer =
    record {
      ends = ends;
      longest = λ state within there.
          let P : List ℕ → Type 0 = λ v. EndsWith w v in
          let Q : List ℕ → Type 0 = λ v. EndsWith next v in
          elim (old_or_new words next state within) [
            | inl old ↦
                let same : word (words ++ next ∷ []) state ≡ word words state = word_old words next state old in
                subst Q (sym same) (longer state old (subst P same there))
            | inr new ↦
                let same : word (words ++ next ∷ []) state ≡ next = word_new words next state new in
                subst Q (sym same) (ends_all next)
          ];
    }

-- from a free state, what ends with the letter is no longer than the new word
free_below : (words : List (List ℕ)) → AreWords words → (root letter state : ℕ) → IsFree words (HasChild words letter) root state
    → (other : ℕ) → other < length words → EndsWith (word words state ++ letter ∷ []) (word words other)
    → EndsWith (next_word words root letter) (word words other)
free_below words are root letter state free =
    let s : List ℕ = word words state in
    let r : List ℕ = word words root in
    ends_cases words are s letter (r ++ letter ∷ [])
    (λ other within by.
    elim (ends_compare s r (word words by.parent) free.ends by.ends) [
      | inl above ↦ ends_spelled r (word words by.parent) (word words other) letter by.spelled above
      | inr below ↦
          absurd (free.none by.parent other by.within by.ends below (record { within = within; spelled = by.spelled }))
    ])

-- the step from a free state by the letter leads to the new state
step_free : (words : List (List ℕ)) → AreWords words → (root letter state : ℕ) → IsFree words (HasChild words letter) root state
    → IsStep (grown words root letter) state letter (length words)
step_free words are root letter state free =
    let next : List ℕ = next_word words root letter in
    let s : List ℕ = word words state in
    step_by (grown words root letter) state letter (length words) s next (omega (arith, length_push words next))
    (word_old words next state free.within) (word_new words next (length words) refl)
    (longest_new words next (s ++ letter ∷ []) (ends_push s (word words root) letter free.ends) (free_below words are root letter state free))

-- a step stays, unless the new word is longer
step_kept : (words : List (List ℕ)) (next : List ℕ) (state letter after : ℕ) → state < length words → IsStep words state letter after
    → (EndsWith (word words state ++ letter ∷ []) next → EndsWith (word words after) next)
    → IsStep (words ++ next ∷ []) state letter after
step_kept words next state letter after within is kept =
    step_by (words ++ next ∷ []) state letter after (word words state) (word words after) (omega (arith, is.within, length_push words next))
    (word_old words next state within) (word_old words next after is.within)
    (longest_kept words next (word words state ++ letter ∷ []) (word words after) is.longest kept)

-- where the walk stopped on the way, the step by the letter is longer
blocked_ends : (words : List (List ℕ)) (root letter state : ℕ) (w u : List ℕ) → IsBlocked words (HasChild words letter) root state
    → EndsWith w (word words state) → IsLongestSuffix words (w ++ letter ∷ []) u → EndsWith u (next_word words root letter)
blocked_ends words root letter state w u blocked ends longest =
    let o : List ℕ = word words blocked.other in
    let n : List ℕ = word words blocked.noted in
    let child : IsChild words blocked.other letter blocked.noted = blocked.note in
    let there : EndsWith (w ++ letter ∷ []) n =
    ends_spelled w o n letter child.spelled (ends_within w (word words state) o ends blocked.ends) in
    let P : List ℕ → Type 0 = λ v. EndsWith v (next_word words root letter) in
    let above : EndsWith n (next_word words root letter) =
    subst P (sym child.spelled) (ends_push o (word words root) letter blocked.above) in
    ends_within u n (next_word words root letter) (longest.longest blocked.noted child.within there) above

-- a step from a state that isn't free stays, and so does one by another letter
step_other : (words : List (List ℕ)) (links : List ℕ) (root letter : ℕ) (free children : List ℕ) → Comes words links root letter free children
    → (state x after : ℕ) → state < length words → (IsAmong free state → x ≡ letter → ⊥) → IsStep words state x after
    → IsStep (grown words root letter) state x after
step_other words links root letter free children comes state x after within other is =
    let s : List ℕ = word words state in
    step_kept words (next_word words root letter) state x after within is
    (λ ends.
    let split = ends_pop s (word words root) x letter ends in
    elim (reach words comes.are links comes.links_are (HasChild words letter) root free children comes.within comes.walk state within split.0) [
      | inl among ↦ absurd (other among split.1)
      | inr blocked ↦
          let L : ℕ → Type 0 = λ y. IsLongestSuffix words (s ++ y ∷ []) (word words after) in
          blocked_ends words root letter state s (word words after) blocked (ends_all s) (subst L split.1 is.longest)
    ])

-- the link of the new state
pub link_new : (words : List (List ℕ)) (root letter after : ℕ) → IsNoChild words root letter → IsStep words root letter after
    → IsLink (grown words root letter) (length words) after
link_new words root letter after none is =
    let next : List ℕ = next_word words root letter in
    let u : List ℕ = word words after in
    let shorter : EndsWith (drop 1 next) u =
    elim (ends_shorter next u is.longest.ends) [
      | inl same ↦ absurd (none after (record { within = is.within; spelled = same }))
      | inr shorter ↦ shorter
    ] in
    let longest : IsLongestSuffix words (drop 1 next) u =
    record {
      ends = shorter;
      longest = λ state within ends.
          is.longest.longest state within (ends_within next (drop 1 next) (word words state) (drop_ends next) ends);
    } in
    link_by (grown words root letter) (length words) after next u (omega (arith, is.within, length_push words next))
    (word_new words next (length words) refl) (word_old words next after is.within)
    (longest_kept words next (drop 1 next) u longest (λ ends. absurd (ends_no_longer (word words root) letter ends)))

-- the new state has no children
pub leaf_none : (words : List (List ℕ)) → AreWords words → (root letter x : ℕ) → root < length words → IsNoChild words root letter
    → IsNoChild (grown words root letter) (length words) x
leaf_none words are root letter x in_words none child is =
    let next : List ℕ = next_word words root letter in
    let own : word (grown words root letter) (length words) ≡ next = word_new words next (length words) refl in
    elim (old_or_new words next child is.within) [
      | inl old ↦
          let spelled : word words child ≡ next ++ x ∷ [] =
          sym (word_old words next child old) ∙ is.spelled ∙ ap (λ (w : List ℕ). w ++ x ∷ []) own in
          let some : 0 < child = elim (cases_lt 0 child) [
            | inl some ↦ some
            | inr zero ↦
                let root_is : child ≡ 0 = omega arith in
                absurd (omega (arith, ap length (sym are.root ∙ sym (ap (word words) root_is) ∙ spelled), length_push next x))
          ] in
          let longer : IsLonger words child = are.longer child some old in
          let both = same_from_push (word words longer.parent) next longer.letter x (sym longer.spelled ∙ spelled) in
          none longer.parent (record { within = omega (arith, longer.earlier); spelled = both.0 })
      | inr new ↦
          let same : next ≡ next ++ x ∷ [] =
          sym (word_new words next child new) ∙ is.spelled ∙ ap (λ (w : List ℕ). w ++ x ∷ []) own in
          omega (arith, ap length same, length_push next x)
    ]

-- its steps are those of its link
pub step_leaf : (words : List (List ℕ)) → AreWords words → (root letter link x after : ℕ) → root < length words → IsNoChild words root letter
    → IsLink (grown words root letter) (length words) link → IsStep (grown words root letter) link x after
    → IsStep (grown words root letter) (length words) x after
step_leaf words are root letter link x after within none is step =
    step_linked (grown words root letter) (words_grow words are root letter within none) (length words) x link after
    (leaf_none words are root letter x within none) is step

-- a child of a state whose link is free has the new state as its link
link_moved : (words : List (List ℕ)) → AreWords words → (root letter link state child : ℕ) → IsFree words (HasChild words letter) root link
    → 0 < state → state < length words → IsLink words state link → IsChild words state letter child
    → IsLink (grown words root letter) child (length words)
link_moved words are root letter link state child free some within is child_is =
    let next : List ℕ = next_word words root letter in
    let s : List ℕ = word words state in
    let l : List ℕ = word words link in
    let dropped : drop 1 (word words child) ≡ drop 1 s ++ letter ∷ [] =
    ap (drop 1) child_is.spelled ∙ drop_push s letter (some_length words are state some within) in
    let ends : EndsWith (drop 1 s ++ letter ∷ []) next =
    ends_push (drop 1 s) (word words root) letter (ends_within (drop 1 s) l (word words root) is.longest.ends free.ends) in
    let longer : (other : ℕ) → other < length words → EndsWith (drop 1 s ++ letter ∷ []) (word words other) → EndsWith next (word words other) =
    ends_cases words are (drop 1 s) letter next
    (λ other in_words by.
    free_below words are root letter link free other in_words
    (ends_spelled l (word words by.parent) (word words other) letter by.spelled (is.longest.longest by.parent by.within by.ends))) in
    let P : List ℕ → Type 0 = λ w. IsLongestSuffix (words ++ (word words root ++ letter ∷ []) ∷ []) w (word words root ++ letter ∷ []) in
    link_by (grown words root letter) child (length words) (word words child) next (omega (arith, length_push words next))
    (word_old words next child child_is.within) (word_new words next (length words) refl)
    (subst P (sym dropped) (longest_new words next (drop 1 s ++ letter ∷ []) ends longer))

-- no state whose word without its first letter ends with the new word, is state 0 or a child of it
inner_some : (words : List (List ℕ)) → AreWords words → (state : ℕ) (w : List ℕ) (x : ℕ) → state < length words
    → EndsWith (drop 1 (word words state)) (w ++ x ∷ []) → 0 < state
inner_some words are state w x within ends =
    elim (cases_lt 0 state) [
      | inl some ↦ some
      | inr none ↦
          let root : state ≡ 0 = omega arith in
          let P : List ℕ → Type 0 = λ v. EndsWith (drop 1 v) (w ++ x ∷ []) in
          let bad : EndsWith [] (w ++ x ∷ []) = subst P (ap (word words) root ∙ are.root) ends in
          absurd (omega (arith, ends_length [] (w ++ x ∷ []) bad, length_push w x))
    ]

parent_some : (words : List (List ℕ)) → AreWords words → (parent y : ℕ) (w : List ℕ) (x : ℕ)
    → EndsWith (drop 1 (word words parent ++ y ∷ [])) (w ++ x ∷ []) → 0 < parent
parent_some words are parent y w x ends =
    elim (cases_lt 0 parent) [
      | inl some ↦ some
      | inr none ↦
          let root : parent ≡ 0 = omega arith in
          let P : List ℕ → Type 0 = λ v. EndsWith (drop 1 (v ++ y ∷ [])) (w ++ x ∷ []) in
          let bad : EndsWith [] (w ++ x ∷ []) = subst P (ap (word words) root ∙ are.root) ends in
          absurd (omega (arith, ends_length [] (w ++ x ∷ []) bad, length_push w x))
    ]

-- where a child's link would be the new state, the walk noted the child
child_noted : (words : List (List ℕ)) (links : List ℕ) (root letter : ℕ) (free children : List ℕ) → Comes words links root letter free children
    → (state child : ℕ) → 0 < state → state < length words → IsChild words state letter child → IsAmong free (get_or links state 0)
    → IsAmong children child
child_noted words links root letter free children comes state child some within is among =
    elim (comes.walk.all among.place state among.within (record { some = some; within = within; linked = sym among.is })) [
      | inl reached ↦
          let free_is : IsFree words (HasChild words letter) root state = comes.walk.free_each state reached in
          absurd (free_is.none state child within (ends_all (word words state)) free_is.ends is)
      | inr stop ↦
          let other : IsChild words state letter stop.noted = stop.note in
          let same : stop.noted ≡ child = comes.are.apart stop.noted child other.within is.within (other.spelled ∙ sym is.spelled) in
          subst (IsAmong children) same stop.among
    ]

-- another link stays
link_kept : (words : List (List ℕ)) (links : List ℕ) (root letter : ℕ) (free children : List ℕ) → Comes words links root letter free children
    → (state link : ℕ) → state < length words → (IsAmong children state → ⊥) → IsLink words state link
    → IsLink (grown words root letter) state link
link_kept words links root letter free children comes state link within other is =
    let next : List ℕ = next_word words root letter in
    let w : List ℕ = word words state in
    let u : List ℕ = word words link in
    let kept : EndsWith (drop 1 w) next → EndsWith u next = λ ends.
    let longer : IsLonger words state = comes.are.longer state (inner_some words comes.are state (word words root) letter within ends) within in
    let p : List ℕ = word words longer.parent in
    let in_words : longer.parent < length words = omega (arith, longer.earlier) in
    let P : List ℕ → Type 0 = λ v. EndsWith (drop 1 v) (word words root ++ letter ∷ []) in
    let ends_p : EndsWith (drop 1 (p ++ longer.letter ∷ [])) next = subst P longer.spelled ends in
    let some : 0 < longer.parent = parent_some words comes.are longer.parent longer.letter (word words root) letter ends_p in
    let dropped : drop 1 (p ++ longer.letter ∷ []) ≡ drop 1 p ++ longer.letter ∷ [] =
    drop_push p longer.letter (some_length words comes.are longer.parent some in_words) in
    let Q : List ℕ → Type 0 = λ v. EndsWith v (word words root ++ letter ∷ []) in
    let split = ends_pop (drop 1 p) (word words root) longer.letter letter (subst Q dropped ends_p) in
    let up : ℕ = get_or links longer.parent 0 in
    let up_is : IsLink words longer.parent up = comes.links_are longer.parent in_words in
    elim (reach words comes.are links comes.links_are (HasChild words letter) root free children comes.within comes.walk up up_is.within (up_is.longest.longest root comes.within split.0)) [
      | inl among ↦
          let child : IsChild words longer.parent letter state =
          record { within = within; spelled = longer.spelled ∙ ap (λ (y : ℕ). p ++ y ∷ []) split.1 } in
          absurd (other (child_noted words links root letter free children comes longer.parent state some in_words child among))
      | inr blocked ↦
          let L : List ℕ → Type 0 = λ v. IsLongestSuffix words v (word words link) in
          let whole : drop 1 w ≡ drop 1 p ++ letter ∷ [] =
          ap (drop 1) longer.spelled ∙ dropped ∙ ap (λ (y : ℕ). drop 1 p ++ y ∷ []) split.1 in
          blocked_ends words root letter up (drop 1 p) u blocked up_is.longest.ends (subst L whole is.longest)
    ] in
    link_by (grown words root letter) state link w u (omega (arith, is.within, length_push words next)) (word_old words next state within)
    (word_old words next link is.within) (longest_kept words next (drop 1 w) u is.longest kept)

-- the failure links, when those of the children that the walk noted lead to the new state
pub links_grow : (words : List (List ℕ)) (links links' : List ℕ) (root letter after : ℕ) (free children : List ℕ)
    → Comes words links root letter free children → IsStep words root letter after
    → ((state : ℕ) → IsAmong children state → get_or links' state 0 ≡ length words)
    → ((state : ℕ) → state < length words → (IsAmong children state → ⊥) → get_or links' state 0 ≡ get_or links state 0)
    → get_or links' (length words) 0 ≡ after → AreLinks (grown words root letter) links'
links_grow words links links' root letter after free children comes step moved others new state in_all =
    let L : ℕ → Type 0 = λ l. IsLink (words ++ (word words root ++ letter ∷ []) ∷ []) state l in
    elim (old_or_new words (next_word words root letter) state in_all) [
      | inr last ↦
          let same : get_or links' state 0 ≡ after = ap (λ (s : ℕ). get_or links' s 0) (sym last) ∙ new in
          let N : ℕ → Type 0 = λ s. IsLink (words ++ (word words root ++ letter ∷ []) ∷ []) s after in
          subst L (sym same) (subst N last (link_new words root letter after comes.none step))
      | inl old ↦
          elim (among_or_not children state) [
            | inl among ↦
                let each = comes.walk.stopped_each state among in
                let noted : IsNoted (length words) links (HasChild words letter) each.0 state = each.2 in
                let free_is : IsFree words (HasChild words letter) root each.0 = comes.walk.free_each each.0 each.1 in
                let K : ℕ → Type 0 = λ l. IsLink words noted.state l in
                let link : IsLink words noted.state each.0 =
                subst K noted.child.linked (comes.links_are noted.state noted.child.within) in
                subst L (sym (moved state among))
                (link_moved words comes.are root letter each.0 noted.state state free_is noted.child.some noted.child.within link noted.note)
            | inr other ↦
                subst L (sym (others state old other))
                (link_kept words links root letter free children comes state (get_or links state 0) old other (comes.links_are state old))
          ]
    ]

-- the step of a state of before, when the steps of the free states by the letter lead to the new state
step_old : (words : List (List ℕ)) (links : List ℕ) (root letter width : ℕ) (rows rows' free children : List ℕ)
    → Comes words links root letter free children → AreSteps words width rows
    → ((state : ℕ) → IsAmong free state → letter < width → get_or rows' (state * width + letter) 0 ≡ length words)
    → ((state x : ℕ) → state < length words → x < width → (IsAmong free state → x ≡ letter → ⊥)
    → get_or rows' (state * width + x) 0 ≡ get_or rows (state * width + x) 0)
    → (state x : ℕ) → state < length words → x < width → IsStep (grown words root letter) state x (get_or rows' (state * width + x) 0)
step_old words links root letter width rows rows' free children comes are led others state x old column =
    let S : ℕ → Type 0 = λ a. IsStep (words ++ (word words root ++ letter ∷ []) ∷ []) state x a in
    let kept : (IsAmong free state → x ≡ letter → ⊥) → S (get_or rows' (state * width + x) 0) = λ other.
    subst S (sym (others state x old column other))
    (step_other words links root letter free children comes state x (get_or rows (state * width + x) 0) old other (are.each state x old column)) in
    elim (cases_eq letter x) [
      | inl same ↦
          elim (among_or_not free state) [
            | inl among ↦
                let R : ℕ → Type 0 = λ y. IsStep (words ++ (word words root ++ letter ∷ []) ∷ []) state y (get_or rows' (state * width + y) 0) in
                let T : ℕ → Type 0 = λ a. IsStep (words ++ (word words root ++ letter ∷ []) ∷ []) state letter a in
                subst R same
                (subst T (sym (led state among (omega arith)))
                (step_free words comes.are root letter state (comes.walk.free_each state among)))
            | inr not_free ↦ kept (λ among is. not_free among)
          ]
      | inr other ↦ kept (λ among is. other (sym is))
    ]

-- the table, when the new state has the row of its link
pub steps_grow : (words : List (List ℕ)) (links : List ℕ) (root letter after width : ℕ) (rows rows' rows'' free children : List ℕ)
    → Comes words links root letter free children → IsStep words root letter after → AreSteps words width rows
    → ((state : ℕ) → IsAmong free state → letter < width → get_or rows' (state * width + letter) 0 ≡ length words)
    → ((state x : ℕ) → state < length words → x < width → (IsAmong free state → x ≡ letter → ⊥)
    → get_or rows' (state * width + x) 0 ≡ get_or rows (state * width + x) 0)
    → ((x : ℕ) → x < width → get_or rows'' (length words * width + x) 0 ≡ get_or rows' (after * width + x) 0)
    → ((state x : ℕ) → state < length words → x < width → get_or rows'' (state * width + x) 0 ≡ get_or rows' (state * width + x) 0)
    → (length words + 1) * width ≤ length rows'' → AreSteps (grown words root letter) width rows''
steps_grow words links root letter after width rows rows' rows'' free children comes step are led others copied same room =
    let old : (state x : ℕ) → state < length words → x < width → IsStep (words ++ (word words root ++ letter ∷ []) ∷ []) state x (get_or rows' (state * width + x) 0) =
    step_old words links root letter width rows rows' free children comes are led others in
    let M : ℕ → Type 0 = λ n. n * width ≤ length rows'' in
    record {
      room = subst M (sym (length_push words (next_word words root letter))) room;
      each = λ state x within column.
          let S : ℕ → Type 0 = λ a. IsStep (words ++ (word words root ++ letter ∷ []) ∷ []) state x a in
          elim (old_or_new words (next_word words root letter) state within) [
            | inl early ↦ subst S (sym (same state x early column)) (old state x early column)
            | inr last ↦
                let T : ℕ → Type 0 = λ a. IsStep (words ++ (word words root ++ letter ∷ []) ∷ []) (length words) x a in
                let U : ℕ → Type 0 = λ s. IsStep (words ++ (word words root ++ letter ∷ []) ∷ []) s x (get_or rows'' (s * width + x) 0) in
                subst U last
                (subst T (sym (copied x column))
                (step_leaf words comes.are root letter after x (get_or rows' (after * width + x) 0) comes.within comes.none
                (link_new words root letter after comes.none step) (old after x step.within column)))
          ];
    }
