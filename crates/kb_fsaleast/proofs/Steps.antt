-- What becomes of the classes as one of them is followed.
use Rattle.std.proofs.Common.{◌≡◌, ◌⊎◌, ℕ, zero, suc, ◌<◌, Bool, false, not, List, [], ◌∷◌, ◌++◌, length, get_or, map, take, drop, replicate, slice_get, Some, None, refl, sym, ap, ◌∙◌, subst, inl, inr, arith, length-take-le, take-append-drop}
use Rattle.std.specs.List.{All, Contains}
use Rattle.std.specs.List.Sorted.{IsNonDecreasingBy, IsPermutation}
use Rattle.std.proofs.lemmas.Bool.{cases_lt}
use Rattle.std.proofs.lemmas.List.{get_or-take, length_push, length-replicate}
use Rattle.std.proofs.lemmas.List.Elements.{All-nil, All-cons, All-push, All-weaker, All-drop, All-take, All-map, All-contains, Contains-append_cases, Contains-append_left, Contains-append_right}
use Rattle.std.proofs.lemmas.List.Sorted.{Contains-permutation, IsPermutation-sym, IsNonDecreasingBy-drop}
use Rattle.std.proofs.lemmas.List.Sums.{count_by-le-length}
use Rattle.std.proofs.lemmas.Option.{none-some}
use Rattle.kb_word.specs.Words.{Less}
use Rattle.kb_word.specs.Words.Less.{shorter}
use Rattle.kb_word.specs.ShortlexLaws.{shortlex_irreflexive, shortlex_transitive}
use Rattle.kb_fsa.specs.Table.{Moves}
use Rattle.kb_explore.specs.Exploration.{numbered, IsTraced}
use Rattle.kb_explore.specs.Exploration.IsTraced.{at_start, along}
use Rattle.kb_explore.proofs.Lists.{last_item}
use Rattle.kb_fsadet.specs.Nondeterministic.{Nondeterministic, IsNondeterministic, LeadsFrom, LeadsSomehow, IsOneOf, moves_from}
use Rattle.kb_fsadet.specs.SubsetConstruction.{set_of, moves_of_each}
use Rattle.kb_fsadet.proofs.Sets.{Contains-none, Contains-set_of, All-from_contains}
use Rattle.kb_fsadet.proofs.Targets.{targets_by_all, move_is_known, Contains-targets_by, Contains-moves_of_each, moves_of_each_contain}
use Rattle.kb_fsadet.proofs.Groups.{AreParted}
use Rattle.kb_fsaleast.specs.Marks.{AreUnseen}
use Rattle.kb_fsaleast.specs.Classes.{word_at, AreClasses, IsFound, NoneAccepts, IsFollowed, Precede, Progress, Partway, Adds}
use Rattle.kb_fsaleast.specs.Classes.Adds.{none, some}
use Rattle.kb_fsaleast.proofs.Texts.{less_continued, less_behind, IsTraced-kept}
use Rattle.kb_fsaleast.proofs.Marks.{none_marked}
use Rattle.kb_fsaleast.proofs.Members.{has_within, word_kept, word_last, has_kept, has_last, has_before, found_kept, followed_kept, mark_found, AreClasses-same, AreClasses-push}

-- ---- the start

module _ (automaton : Nondeterministic) (n : ℕ) (size : n ≡ length automaton.rows) where
  no_classes : AreClasses automaton [] [] (replicate n false) []
  no_classes =
      let count = length-replicate n false in record {
        one_word_each = refl;
        one_origin_each = refl;
        one_mark_each = count ∙ size;
        room = omega (arith, count_by-le-length not (replicate n false));
        lead = λ place state has. absurd (let within = has_within [] place state has in let no : ⊥ = omega arith in no);
        marked = λ state is. absurd (none_marked n state is);
        traced = λ place within. absurd (let no : ⊥ = omega arith in no);
        from_earlier = λ state parent symbol at. absurd (no_number state (suc parent, symbol) at);
        ascending = λ i j d low high. absurd (let no : ⊥ = omega arith in no);
      }
    where
      no_number : (number : ℕ) (origin : ℕ × ℕ) → numbered [] number ≡ Some origin → ⊥
      no_number zero origin at = none-some origin at
      no_number (suc place) origin at = none-some origin at

  -- the only word is empty
  only_empty : (place : ℕ) → word_at ([] ∷ []) place ≡ []
  only_empty zero = refl
  only_empty (suc place) = refl

  pub Progress-begun : (members : List (List ℕ)) (origins : List (ℕ × ℕ)) (marks : List Bool)
      → Adds [] [] (replicate n false) automaton.initial (0, 0) members origins marks → Progress automaton members origins marks 0
  Progress-begun members origins marks (none no_class no_origin unseen) = rw (no_class, no_origin) (record {
    words = [];
    classes = AreClasses-same no_classes automaton.initial marks unseen;
    initial = λ state at. elim (unseen.marked state (unseen.each state at)) [
      | inl old ↦ absurd (none_marked n state old)
      | inr new ↦ absurd (Contains-none state new)
    ];
    within = omega arith;
    done = λ place within. absurd (let no : ⊥ = omega arith in no);
    next = λ within. absurd (let no : ⊥ = omega arith in no);
  })
  Progress-begun members origins marks (some {fresh} one_class one_origin more unseen) =
      let classes = AreClasses-push no_classes automaton.initial fresh marks (0, 0) [] unseen more (All-nil (λ other. Less other []))
      (λ state at. record { start = state; is_initial = at; leads = refl }) (at_start refl)
      (λ parent symbol is. absurd (let no : suc parent ≡ 0 = ap (λ (p : ℕ × ℕ). p.0) is in omega arith)) in
      rw (one_class, one_origin) (record {
        words = [] ∷ [];
        classes = classes;
        initial = λ state at.
            let found = classes.marked state (unseen.each state at) in record {
              place = found.0;
              has = found.1;
              not_less = λ less. (let P : List ℕ → Type 0 = λ w. Less [] w in shortlex_irreflexive [] (subst P (only_empty found.0) less));
            };
        within = omega arith;
        done = λ place within. absurd (let no : ⊥ = omega arith in no);
        next = λ within symbol.
            All-cons (λ other. Less other (symbol ∷ [])) [] [] (shorter (omega arith)) (All-nil (λ other. Less other (symbol ∷ [])));
      })

-- ---- the moves of a class

-- the moves of its states, sorted
pub Partway-begun : {automaton : Nondeterministic} {members : List (List ℕ)} {origins : List (ℕ × ℕ)} {marks : List Bool} {followed : ℕ}
    → Progress automaton members origins marks followed → followed < length members → NoneAccepts automaton members followed → (sorted : Moves)
    → IsPermutation (moves_of_each automaton (get_or members followed [])) sorted → IsNonDecreasingBy (λ move. move.0) sorted
    → Partway automaton members origins marks followed sorted
Partway-begun {automaton} {members} {followed = followed} progress within rejects sorted permuted in_order =
    let class = get_or members followed [] in record {
      words = progress.words;
      classes = progress.classes;
      initial = progress.initial;
      within = within;
      word = word_at progress.words followed;
      is_word = refl;
      done = progress.done;
      rejects = rejects;
      in_order = in_order;
      from_there = λ symbol target at.
          Contains-moves_of_each automaton class (symbol, target)
          (Contains-permutation sorted (moves_of_each automaton class) (symbol, target) (IsPermutation-sym (moves_of_each automaton class) sorted permuted) at);
      each = λ state symbol target has at.
          inl (Contains-permutation (moves_of_each automaton class) sorted (symbol, target) permuted
          (moves_of_each_contain automaton class state (symbol, target) has at));
      below = λ k d h. progress.next within (get_or sorted k d).0;
      top = 0;
      under = progress.next within 0;
    }

-- nothing is left where there is no first move
pub nothing_left : (rest : Moves) → slice_get rest 0 ≡ None → rest ≡ []
nothing_left [] is = refl
nothing_left (move ∷ rest) is = absurd (none-some move (sym is))

-- the targets of the first moves are states, and so have marks
pub targets_known : {automaton : Nondeterministic} {members : List (List ℕ)} {origins : List (ℕ × ℕ)} {marks : List Bool} {followed : ℕ} {rest : Moves}
    → IsNondeterministic automaton → Partway automaton members origins marks followed rest → (count : ℕ)
    → All (IsOneOf (length marks)) (map (λ (move : ℕ × ℕ). move.1) (take count rest))
targets_known {automaton} {members} {origins} {marks} {followed} {rest} is partway count =
    All-map (IsOneOf (length marks)) (λ (move : ℕ × ℕ). move.1) (take count rest)
    (All-take (λ (move : ℕ × ℕ). IsOneOf (length marks) move.1) count rest
    (All-from_contains (λ (move : ℕ × ℕ). IsOneOf (length marks) move.1) rest known))
  where
    known : (move : ℕ × ℕ) → Contains rest move → IsOneOf (length marks) move.1
    known move at =
        let from = partway.from_there move.0 move.1 at in
        let target = (move_is_known automaton from.0 move is from.1.1).1 in
        let P : ℕ → Type 0 = λ n. IsOneOf n move.1 in
        subst P (sym partway.classes.one_mark_each) target

-- ---- a group of moves by one symbol

module _ {automaton : Nondeterministic} {members : List (List ℕ)} {origins : List (ℕ × ℕ)} {marks : List Bool} {followed : ℕ} {rest : Moves}
    (partway : Partway automaton members origins marks followed rest) (symbol count : ℕ) (parts : AreParted rest symbol count) where
  abbrev group : Moves
  group = take count rest

  abbrev others : Moves
  others = drop count rest

  abbrev targets : List ℕ
  targets = map (λ (move : ℕ × ℕ). move.1) (take count rest)

  -- all words are less than the class's with the symbol
  precede : Precede partway.words partway.word symbol
  precede =
      let positive = parts.some in
      let within = parts.within in
      let here = parts.group 0 (0, 0) (omega (arith, length-take-le count rest within)) in
      let same : (get_or rest 0 (0, 0)).0 ≡ symbol = sym (ap (λ move. move.0) (get_or-take count rest 0 (0, 0) positive)) ∙ here in
      let P : ℕ → Type 0 = λ x. Precede partway.words partway.word x in
      subst P same (partway.below 0 (0, 0) (omega arith))

  split : (move : ℕ × ℕ) → Contains rest move → Contains group move ⊎ Contains others move
  split move at =
      let P : Moves → Type 0 = λ moves. Contains moves move in
      Contains-append_cases (take count rest) (drop count rest) move (subst P (sym (take-append-drop count rest)) at)

  in_group : (move : ℕ × ℕ) → Contains group move → Contains rest move
  in_group move at =
      let P : Moves → Type 0 = λ moves. Contains moves move in
      subst P (take-append-drop count rest) (Contains-append_left (take count rest) (drop count rest) move at)

  in_others : (move : ℕ × ℕ) → Contains others move → Contains rest move
  in_others move at =
      let P : Moves → Type 0 = λ moves. Contains moves move in
      subst P (take-append-drop count rest) (Contains-append_right (take count rest) (drop count rest) move at)

  -- a target is that of a move by the symbol
  pub target_move : (target : ℕ) → Contains targets target → Contains rest (symbol, target)
  target_move target at =
      let P : List ℕ → Type 0 = λ xs. Contains xs target in
      in_group (symbol, target)
      ((Contains-targets_by (take count rest) symbol target).0 (subst P (sym (targets_by_all (take count rest) symbol parts.group)) at))

  move_target : (other target : ℕ) → Contains group (other, target) → (other ≡ symbol) × Contains targets target
  move_target other target at =
      let P : List ℕ → Type 0 = λ xs. Contains xs target in
      let same : other ≡ symbol = All-contains (λ (move : ℕ × ℕ). move.0 ≡ symbol) (take count rest) (other, target) parts.group at in
      let Q : ℕ → Type 0 = λ x. Contains (take count rest) (x, target) in (
        same,
        subst P (targets_by_all (take count rest) symbol parts.group)
            ((Contains-targets_by (take count rest) symbol target).1 (subst Q same at)),
      )

  -- the word with the symbol leads to the targets
  leads : (target : ℕ) → Contains targets target → LeadsSomehow automaton (partway.word ++ symbol ∷ []) target
  leads target at =
      let from = partway.from_there symbol target (target_move target at) in
      let P : List ℕ → Type 0 = λ w. LeadsSomehow automaton w from.0 in
      let before = subst P partway.is_word (partway.classes.lead followed from.0 from.1.0) in record {
        start = before.start;
        is_initial = before.is_initial;
        leads = leads_push before.start partway.word from.0 target before.leads from.1.1;
      }
    where
      leads_push : (start : ℕ) (text : List ℕ) (state target : ℕ) → LeadsFrom automaton start text state
          → Contains (moves_from automaton state) (symbol, target) → LeadsFrom automaton start (text ++ symbol ∷ []) target
      leads_push start [] state target same at =
          let P : ℕ → Type 0 = λ s. Contains (moves_from automaton s) (symbol, target) in (target, subst P (sym same) at, refl)
      leads_push start (letter ∷ text) state target on at = (on.0, on.1, leads_push on.0 text state target on.2 at)

  -- where the targets are in a class already
  pub Partway-same : (marks' : List Bool) → AreUnseen marks targets [] marks' → Partway automaton members origins marks' followed (drop count rest)
  Partway-same marks' unseen = record {
    words = partway.words;
    classes = AreClasses-same partway.classes targets marks' unseen;
    initial = partway.initial;
    within = partway.within;
    word = partway.word;
    is_word = partway.is_word;
    done = partway.done;
    rejects = partway.rejects;
    in_order = IsNonDecreasingBy-drop (λ (move : ℕ × ℕ). move.0) count rest partway.in_order;
    from_there = λ other target at. partway.from_there other target (in_others (other, target) at);
    each = λ state other target has at. elim (partway.each state other target has at) [
      | inr found ↦ inr found
      | inl left ↦ elim (split (other, target) left) [
        | inr later ↦ inl later
        | inl here ↦
            let move = move_target other target here in
            let P : ℕ → Type 0 = λ x. IsFound members partway.words (partway.word ++ x ∷ []) target in
            inr (subst P (sym move.0) (elim (unseen.marked target (unseen.each target move.1)) [
              | inl old ↦ mark_found partway.classes (partway.word ++ symbol ∷ []) target old precede
              | inr new ↦ absurd (Contains-none target new)
            ]))
      ]
    ];
    below = All-drop (λ (move : ℕ × ℕ). Precede partway.words partway.word move.0) count rest partway.below;
    top = partway.top;
    under = partway.under;
  }

  -- where some are in none
  module _ (fresh : List ℕ) (marks' : List Bool) (more : 0 < length fresh) (unseen : AreUnseen marks targets fresh marks') where
    abbrev longer : List ℕ
    longer = partway.word ++ symbol ∷ []

    classes' : AreClasses automaton (members ++ set_of fresh ∷ []) (origins ++ (suc followed, symbol) ∷ []) marks' (partway.words ++ longer ∷ [])
    classes' =
        let within = partway.within in
        let count = partway.classes.one_word_each in
        let other_count = partway.classes.one_origin_each in
        let origin : ℕ × ℕ = (suc followed, symbol) in
        let P : List ℕ → Type 0 = λ w. IsTraced (origins ++ origin ∷ []) (suc followed) w in
        let before = subst P partway.is_word (IsTraced-kept origin (partway.classes.traced followed (omega arith))) in
        AreClasses-push partway.classes targets fresh marks' origin (partway.word ++ symbol ∷ []) unseen more precede leads
        (along (last_item origins origin) before)
        (λ parent letter is. let same : suc parent ≡ suc followed = ap (λ (p : ℕ × ℕ). p.0) is in omega arith)

    found_more : (target : ℕ) → Contains targets target
        → IsFound (members ++ set_of fresh ∷ []) (partway.words ++ longer ∷ []) (partway.word ++ symbol ∷ []) target
    found_more target at =
        let count = partway.classes.one_word_each in
        elim (unseen.marked target (unseen.each target at)) [
          | inl old ↦ found_kept count (set_of fresh) longer (mark_found partway.classes (partway.word ++ symbol ∷ []) target old precede)
          | inr new ↦ record {
            place = length members;
            has = has_last members (set_of fresh) target ((Contains-set_of fresh target).1 new);
            not_less = λ less.
                let P : List ℕ → Type 0 = λ w. Less (partway.word ++ symbol ∷ []) w in
                shortlex_irreflexive longer (subst P (word_last partway.words longer (length members) (sym count)) less);
          }
        ]

    -- all words and the new one precede the class's with a greater symbol
    more_precede : (greater : ℕ) → symbol < greater → Precede (partway.words ++ longer ∷ []) partway.word greater
    more_precede greater less =
        let behind = less_behind partway.word symbol greater less in
        All-push (λ other. Less other (partway.word ++ greater ∷ [])) partway.words longer
        (All-weaker (λ other. Less other (partway.word ++ symbol ∷ [])) (λ other. Less other (partway.word ++ greater ∷ []))
        (λ other before. shortlex_transitive other (partway.word ++ symbol ∷ []) (partway.word ++ greater ∷ []) before behind) partway.words precede)
        behind

    pub Partway-push : Partway automaton (members ++ set_of fresh ∷ []) (origins ++ (suc followed, symbol) ∷ []) marks' followed (drop count rest)
    Partway-push =
        let within = partway.within in
        let count' = partway.classes.one_word_each in
        let class = set_of fresh in record {
          words = partway.words ++ longer ∷ [];
          classes = classes';
          initial = λ state at. found_kept count' class longer (partway.initial state at);
          within = omega (arith, length_push members class);
          word = partway.word;
          is_word = word_kept partway.words longer followed (omega arith) ∙ partway.is_word;
          done = λ place before. followed_kept count' class longer place (omega arith) (partway.done place before);
          rejects = λ state has. partway.rejects state (has_before members class followed state within has);
          in_order = IsNonDecreasingBy-drop (λ (move : ℕ × ℕ). move.0) count rest partway.in_order;
          from_there = λ other target at.
              let from = partway.from_there other target (in_others (other, target) at) in
              (from.0, (has_kept members class followed from.0 from.1.0, from.1.1));
          each = λ state other target has at. elim (partway.each state other target (has_before members class followed state within has) at) [
            | inr found ↦ inr (found_kept count' class longer found)
            | inl left ↦ elim (split (other, target) left) [
              | inr later ↦ inl later
              | inl here ↦
                  let move = move_target other target here in
                  let P : ℕ → Type 0 = λ x. IsFound (members ++ class ∷ []) (partway.words ++ longer ∷ []) (partway.word ++ x ∷ []) target in
                  inr (subst P (sym move.0) (found_more target move.1))
            ]
          ];
          below = λ k d h. more_precede (get_or (drop count rest) k d).0 (parts.others k d h);
          top = suc symbol;
          under = more_precede (suc symbol) (omega arith);
        }

  -- the targets are added as a class, where some are in none
  pub Partway-more : (members' : List (List ℕ)) (origins' : List (ℕ × ℕ)) (marks' : List Bool)
      → Adds members origins marks (map (λ (move : ℕ × ℕ). move.1) (take count rest)) (suc followed, symbol) members' origins' marks'
      → Partway automaton members' origins' marks' followed (drop count rest)
  Partway-more members' origins' marks' (none no_class no_origin unseen) = rw (no_class, no_origin) (Partway-same marks' unseen)
  Partway-more members' origins' marks' (some {fresh} one_class one_origin more unseen) =
      rw (one_class, one_origin) (Partway-push fresh marks' more unseen)

-- ---- the next class

pub Progress-more : {automaton : Nondeterministic} {members : List (List ℕ)} {origins : List (ℕ × ℕ)} {marks : List Bool} {followed : ℕ} {rest : Moves}
    → Partway automaton members origins marks followed rest → rest ≡ [] → Progress automaton members origins marks (suc followed)
Progress-more {automaton} {members} {origins} {marks} {followed} {rest} partway whole = record {
  words = partway.words;
  classes = partway.classes;
  initial = partway.initial;
  within = let within = partway.within in omega arith;
  done = λ place before. elim (cases_lt place followed) [
    | inl earlier ↦ partway.done place earlier
    | inr past ↦
        let same : followed ≡ place = omega arith in
        let P : ℕ → Type 0 = λ n. IsFollowed automaton members partway.words n in
        subst P same last
  ];
  next = λ within symbol.
      let count = partway.classes.one_word_each in
      let after : Less (word_at partway.words followed) (word_at partway.words (suc followed)) =
      partway.classes.ascending followed (suc followed) [] (omega arith) (omega arith) in
      let P : List ℕ → Type 0 = λ w. Less w (word_at partway.words (suc followed)) in
      let on = less_continued partway.word (word_at partway.words (suc followed)) partway.top symbol (subst P partway.is_word after) in
      All-weaker (λ other. Less other (partway.word ++ partway.top ∷ [])) (λ other. Less other (word_at partway.words (suc followed) ++ symbol ∷ []))
      (λ other before.
      shortlex_transitive other (partway.word ++ partway.top ∷ []) (word_at partway.words (suc followed) ++ symbol ∷ []) before on)
      partway.words partway.under;
}
  where
    last : IsFollowed automaton members partway.words followed
    last = record {
      rejects = partway.rejects;
      targets = λ state symbol target has at.
          let P : List ℕ → Type 0 = λ w. IsFound members partway.words (w ++ symbol ∷ []) target in
          subst P (sym partway.is_word) (elim (partway.each state symbol target has at) [
            | inl left ↦ (let Q : Moves → Type 0 = λ moves. Contains moves (symbol, target) in absurd (Contains-none (symbol, target) (subst Q whole left)))
            | inr found ↦ found
          ]);
    }
