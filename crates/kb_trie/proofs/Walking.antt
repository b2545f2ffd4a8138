-- Walks down the failure tree.
use Rattle.std.proofs.Common.{◌≡◌, ℕ, zero, suc, ◌+◌, ◌<◌, ◌≤◌, ◌⊎◌, List, [], ◌∷◌, ◌++◌, length, get_or, drop, refl, sym, ap, ◌∙◌, subst, inl, inr, arith, Option, Some, None, IfSome, IfNone}
use Rattle.std.proofs.lemmas.List.{get_or_append_left, get_or_push, length_push}
use Rattle.std.proofs.lemmas.Bool.{cases_lt, cases_order}
use Rattle.std.specs.List.Sorted.{IsPermutation}
use Rattle.kb_word.specs.Words.{EndsWith}
use Rattle.kb_trie.specs.States.{AreWords, word}
use Rattle.kb_trie.specs.Steps.{AreLinks, IsLink}
use Rattle.kb_trie.specs.FailureTrees.{IsLastLinked}
use Rattle.kb_trie.specs.Walks.{AreDeep, Gains, IsAmong, IsFailureChild, IsFree, IsStop, IsWalk, IsWalking}
use Rattle.kb_trie.proofs.Among.{among_push, among_new, among_cases, among_none, among_permuted, among_permuted_back}
use Rattle.kb_trie.proofs.Longest.{depth_below, link_shorter}
use Rattle.kb_trie.proofs.Suffixes.{ends_all, ends_within, ends_shorter, drop_ends, ends_of_nil, same_ends as same_suffixes}

-- before the first child
pub gains_first : (count : ℕ) (links : List ℕ) (notes : ℕ → ℕ → Type 0) (link first : ℕ) (free stopped : List ℕ)
    → IsLastLinked links link count first → Gains count links notes link first free stopped free stopped
gains_first count links notes link first free stopped is =
    record {
      longer = omega arith;
      kept = λ place within. refl;
      gained = λ place late within. absurd (omega arith);
      unstopped = λ place noted late within. absurd (omega arith);
      stays = λ noted among. among;
      noted_there = λ noted among. inl among;
      all = λ state later child. absurd (omega (arith, is.last state child.some child.within child.linked));
    }

-- which children are left after one
among_left : (links : List ℕ) (count link state next other : ℕ) → IsLastLinked links link state next → next < other
    → IsFailureChild count links link other → (state < other) ⊎ (state ≡ other)
among_left links count link state next other is later child =
    elim (cases_order state other) [
      | inl same ↦ inr same
      | inr apart ↦ elim apart [
        | inl above ↦ inl above
        | inr below ↦ absurd (omega (arith, is.last other child.some below child.linked))
      ]
    ]

-- a child at which the walk doesn't stop
pub gains_free : (count : ℕ) (links : List ℕ) (notes : ℕ → ℕ → Type 0) (link state next : ℕ) (free stopped free' stopped' : List ℕ)
    → IsFailureChild count links link state → ((noted : ℕ) → ¬ notes state noted) → IsLastLinked links link state next
    → Gains count links notes link state free stopped free' stopped'
    → Gains count links notes link next free stopped (free' ++ state ∷ []) stopped'
gains_free count links notes link state next free stopped free' stopped' child none is gains =
    let more : List ℕ = free' ++ state ∷ [] in
    record {
      longer = omega (arith, gains.longer, length_push free' state);
      kept = λ place within.
          get_or_append_left free' (state ∷ []) 0 place (omega (arith, gains.longer)) ∙ gains.kept place within;
      gained = λ place late within.
          let P : ℕ → Type 0 = λ s. IsFailureChild count links link s in
          elim (cases_lt place (length free')) [
            | inl old ↦ subst P (sym (get_or_append_left free' (state ∷ []) 0 place old)) (gains.gained place late old)
            | inr new ↦ subst P (sym (get_or_push free' state 0 place (omega (arith, length_push free' state)))) child
          ];
      unstopped = λ place noted late within.
          let P : ℕ → Type 0 = λ s. ¬ notes s noted in
          elim (cases_lt place (length free')) [
            | inl old ↦ subst P (sym (get_or_append_left free' (state ∷ []) 0 place old)) (gains.unstopped place noted late old)
            | inr new ↦ subst P (sym (get_or_push free' state 0 place (omega (arith, length_push free' state)))) (none noted)
          ];
      stays = gains.stays;
      noted_there = gains.noted_there;
      all = λ other later is_child.
          elim (among_left links count link state next other is later is_child) [
            | inl above ↦ elim (gains.all other above is_child) [
              | inl among ↦ inl (among_push free' state other among)
              | inr stop ↦ inr stop
            ]
            | inr same ↦ let P : ℕ → Type 0 = λ s. IsAmong more s in inl (subst P same (among_new free' state))
          ];
    }

stop_kept : (notes : ℕ → ℕ → Type 0) (stopped stopped' : List ℕ) (state : ℕ) → ((noted : ℕ) → IsAmong stopped noted → IsAmong stopped' noted)
    → IsStop notes stopped state → IsStop notes stopped' state
stop_kept notes stopped stopped' state stays stop =
    record { noted = stop.noted; note = stop.note; among = stays stop.noted stop.among }

-- a child at which it stops
pub gains_stop : (count : ℕ) (links : List ℕ) (notes : ℕ → ℕ → Type 0) (link state next noted : ℕ) (free stopped free' stopped' : List ℕ)
    → IsFailureChild count links link state → notes state noted → IsLastLinked links link state next
    → Gains count links notes link state free stopped free' stopped'
    → Gains count links notes link next free stopped free' (stopped' ++ noted ∷ [])
gains_stop count links notes link state next noted free stopped free' stopped' child note is gains =
    let more : List ℕ = stopped' ++ noted ∷ [] in
    let stays : (number : ℕ) → IsAmong stopped' number → IsAmong more number = λ number among. among_push stopped' noted number among in
    record {
      longer = gains.longer;
      kept = gains.kept;
      gained = gains.gained;
      unstopped = gains.unstopped;
      stays = λ number among. stays number (gains.stays number among);
      noted_there = λ number among.
          elim (among_cases stopped' noted number among) [
            | inl old ↦ gains.noted_there number old
            | inr same ↦
                let P : ℕ → Type 0 = λ n. notes state n in
                inr (record { state = state; child = child; note = subst P same note })
          ];
      all = λ other later is_child.
          elim (among_left links count link state next other is later is_child) [
            | inl above ↦ elim (gains.all other above is_child) [
              | inl among ↦ inl among
              | inr stop ↦ inr (stop_kept notes stopped' more other stays stop)
            ]
            | inr same ↦
                let P : ℕ → Type 0 = λ s. IsStop notes more s in
                inr (subst P same (record { noted = noted; note = note; among = among_new stopped' noted }))
          ];
    }

-- a child at which the walk stops, or not
pub gains_add : (count : ℕ) (links : List ℕ) (notes : ℕ → ℕ → Type 0) (link state next : ℕ) (noted : Option ℕ)
    (free stopped free' stopped' free'' stopped'' : List ℕ) → IsFailureChild count links link state → IfSome noted (notes state)
    → IfNone noted ((number : ℕ) → ¬ notes state number) → IsLastLinked links link state next
    → Gains count links notes link state free stopped free' stopped'
    → IfNone noted ((free'' ≡ free' ++ state ∷ []) × (stopped'' ≡ stopped'))
    → IfSome noted (λ number. (free'' ≡ free') × (stopped'' ≡ stopped' ++ number ∷ []))
    → Gains count links notes link next free stopped free'' stopped''
gains_add count links notes link state next (Some noted) free stopped free' stopped' free'' stopped'' child some none is gains at_none at_some =
    let P : List ℕ → Type 0 = λ f. Gains count links notes link next free stopped f stopped'' in
    let Q : List ℕ → Type 0 = λ s. Gains count links notes link next free stopped free' s in
    subst P (sym at_some.0) (subst Q (sym at_some.1) (gains_stop count links notes link state next noted free stopped free' stopped' child some is gains))
gains_add count links notes link state next None free stopped free' stopped' free'' stopped'' child some none is gains at_none at_some =
    let P : List ℕ → Type 0 = λ f. Gains count links notes link next free stopped f stopped'' in
    let Q : List ℕ → Type 0 = λ s. Gains count links notes link next free stopped (free' ++ state ∷ []) s in
    subst P (sym at_none.0) (subst Q (sym at_none.1) (gains_free count links notes link state next free stopped free' stopped' child none is gains))

-- a walk that begins
pub walking_first : (words : List (List ℕ)) → AreWords words → (links : List ℕ) (notes : ℕ → ℕ → Type 0) (root : ℕ) → root < length words
    → ((noted : ℕ) → ¬ notes root noted) → IsWalking words links notes root 0 (root ∷ []) []
walking_first words are links notes root within none =
    record {
      starts = record { place = 0; within = omega arith; is = refl };
      free_each = λ state among.
          let place : 0 ≡ among.place = omega (arith, among.within) in
          let same : root ≡ state = ap (λ (p : ℕ). get_or (root ∷ []) p 0) place ∙ among.is in
          let P : ℕ → Type 0 = λ s. IsFree words notes root s in
          subst P same (record {
            within = within;
            ends = ends_all (word words root);
            none = λ other noted in_words one two note.
                let is : other ≡ root = are.apart other root in_words within (same_suffixes (word words other) (word words root) two one) in
                let Q : ℕ → Type 0 = λ s. notes s noted in
                none noted (subst Q is note);
          });
      stopped_each = λ noted among. absurd (among_none noted among);
      all = λ place state below child. absurd (omega arith);
    }

-- a child in the failure tree of a state that a walk reached
free_more : (words : List (List ℕ)) → AreWords words → (links : List ℕ) → AreLinks words links → (notes : ℕ → ℕ → Type 0) (root at state : ℕ)
    → IsFree words notes root at → IsFailureChild (length words) links at state → ((noted : ℕ) → ¬ notes state noted)
    → IsFree words notes root state
free_more words are links linked notes root at state free child none =
    let s : List ℕ = word words state in
    let P : ℕ → Type 0 = λ l. IsLink words state l in
    let link : IsLink words state at = subst P child.linked (linked state child.within) in
    record {
      within = child.within;
      ends =
          ends_within s (drop 1 s) (word words root) (drop_ends s)
          (ends_within (drop 1 s) (word words at) (word words root) link.longest.ends free.ends);
      none = λ other noted in_words one two note.
          elim (ends_shorter s (word words other) one) [
            | inl same ↦
                let is : other ≡ state = are.apart other state in_words child.within same in
                let Q : ℕ → Type 0 = λ s. notes s noted in
                none noted (subst Q is note)
            | inr shorter ↦ free.none other noted in_words (link.longest.longest other in_words shorter) two note
          ];
    }

among_kept : (free free' : List ℕ) → length free ≤ length free' → ((place : ℕ) → place < length free → get_or free' place 0 ≡ get_or free place 0)
    → (state : ℕ) → IsAmong free state → IsAmong free' state
among_kept free free' longer kept state among =
    record { place = among.place; within = omega (arith, among.within); is = kept among.place among.within ∙ among.is }

-- all children of a state more
pub walking_more : (words : List (List ℕ)) → AreWords words → (links : List ℕ) → AreLinks words links → (notes : ℕ → ℕ → Type 0)
    (root place at : ℕ) (free stopped free' stopped' : List ℕ) → place < length free → at ≡ get_or free place 0
    → IsWalking words links notes root place free stopped
    → Gains (length words) links notes at 0 free stopped free' stopped'
    → IsWalking words links notes root (place + 1) free' stopped'
walking_more words are links linked notes root place at free stopped free' stopped' within is_at walking gains =
    let up : (state : ℕ) → IsAmong free state → IsAmong free' state = among_kept free free' gains.longer gains.kept in
    let here : IsAmong free at = record { place = place; within = within; is = sym is_at } in
    record {
      starts = up root walking.starts;
      free_each = λ state among.
          elim (cases_lt among.place (length free)) [
            | inl old ↦
                walking.free_each state (record { place = among.place; within = old; is = sym (gains.kept among.place old) ∙ among.is })
            | inr new ↦
                let C : ℕ → Type 0 = λ s. IsFailureChild (length words) links at s in
                let N : ℕ → Type 0 = λ s. (noted : ℕ) → ¬ notes s noted in
                free_more words are links linked notes root at state (walking.free_each at here)
                (subst C among.is (gains.gained among.place new among.within))
                (subst N among.is (λ noted. gains.unstopped among.place noted new among.within))
          ];
      stopped_each = λ noted among.
          elim (gains.noted_there noted among) [
            | inl old ↦
                let each = walking.stopped_each noted old in
                (each.0, up each.0 each.1, each.2)
            | inr new ↦ (at, up at here, new)
          ];
      all = λ other state below child.
          elim (cases_lt other place) [
            | inl earlier ↦
                let C : ℕ → Type 0 = λ l. IsFailureChild (length words) links l state in
                elim (walking.all other state earlier (subst C (gains.kept other (omega arith)) child)) [
                  | inl among ↦ inl (up state among)
                  | inr stop ↦ inr (stop_kept notes stopped stopped' state gains.stays stop)
                ]
            | inr late ↦
                let same : other ≡ place = omega arith in
                let C : ℕ → Type 0 = λ l. IsFailureChild (length words) links l state in
                let is : get_or free' other 0 ≡ at = ap (λ (p : ℕ). get_or free' p 0) same ∙ gains.kept place within ∙ sym is_at in
                let mine : IsFailureChild (length words) links at state = subst C is child in
                gains.all state mine.some mine
          ];
    }

-- the words of the children are longer
pub deep_more : (words : List (List ℕ)) → AreWords words → (links : List ℕ) → AreLinks words links → (notes : ℕ → ℕ → Type 0)
    (level end at : ℕ) (free stopped free' stopped' : List ℕ) → level ≤ length (word words at) → AreDeep words (level + 1) end free
    → Gains (length words) links notes at 0 free stopped free' stopped' → AreDeep words (level + 1) end free'
deep_more words are links linked notes level end at free stopped free' stopped' deep below gains place from within =
    elim (cases_lt place (length free)) [
      | inl old ↦
          let P : ℕ → Type 0 = λ s. level + 1 ≤ length (word words s) in
          subst P (sym (gains.kept place old)) (below place from old)
      | inr new ↦
          let state : ℕ = get_or free' place 0 in
          let child : IsFailureChild (length words) links at state = gains.gained place new within in
          let P : ℕ → Type 0 = λ l. IsLink words state l in
          let shorter : length (word words at) < length (word words state) =
          link_shorter words are state at child.some child.within (subst P child.linked (linked state child.within)) in
          omega arith
    ]

-- at a level as deep as there are states nothing is left
pub walk_ends : (words : List (List ℕ)) → AreWords words → (links : List ℕ) (notes : ℕ → ℕ → Type 0) (root level start : ℕ) (free stopped : List ℕ)
    → length words ≤ level → start ≤ length free → AreDeep words level start free → IsWalking words links notes root start free stopped
    → IsWalk words links notes root free stopped
walk_ends words are links notes root level start free stopped deepest within deep walking =
    elim (cases_lt start (length free)) [
      | inl more ↦
          let state : ℕ = get_or free start 0 in
          let among : IsAmong free state = record { place = start; within = more; is = refl } in
          let is : IsFree words notes root state = walking.free_each state among in
          absurd (omega (arith, depth_below words are state is.within, deep start (omega arith) more, is.within))
      | inr done ↦
          let same : start ≡ length free = omega arith in
          let P : ℕ → Type 0 = λ n. IsWalking words links notes root n free stopped in
          subst P same walking
    ]

-- what was noted, in another order
pub walk_permuted : (words : List (List ℕ)) (links : List ℕ) (notes : ℕ → ℕ → Type 0) (root : ℕ) (free stopped stopped' : List ℕ)
    → IsPermutation stopped stopped' → IsWalk words links notes root free stopped → IsWalk words links notes root free stopped'
walk_permuted words links notes root free stopped stopped' same walk =
    record {
      starts = walk.starts;
      free_each = walk.free_each;
      stopped_each = λ noted among. walk.stopped_each noted (among_permuted_back stopped stopped' noted same among);
      all = λ place state below child.
          elim (walk.all place state below child) [
            | inl among ↦ inl among
            | inr stop ↦ inr (stop_kept notes stopped stopped' state (λ noted is. among_permuted stopped stopped' noted same is) stop)
          ];
    }

-- at a state between this one and the root a walk stops
pub record IsBlocked (words : List (List ℕ)) (notes : ℕ → ℕ → Type 0) (root state : ℕ) : Type 0 where
  pub other : ℕ
  pub noted : ℕ
  pub within : other < length words
  pub ends : EndsWith (word words state) (word words other)
  pub above : EndsWith (word words other) (word words root)
  pub note : notes other noted

reach_by : (bound : ℕ) (words : List (List ℕ)) → AreWords words → (links : List ℕ) → AreLinks words links → (notes : ℕ → ℕ → Type 0)
    (root : ℕ) (free stopped : List ℕ) → root < length words → IsWalk words links notes root free stopped
    → (state : ℕ) → length (word words state) < bound → state < length words → EndsWith (word words state) (word words root)
    → IsAmong free state ⊎ IsBlocked words notes root state
reach_by zero words are links linked notes root free stopped in_words walk state below within ends = absurd (omega arith)
reach_by (suc bound) words are links linked notes root free stopped in_words walk state below within ends =
    let s : List ℕ = word words state in
    let r : List ℕ = word words root in
    let A : ℕ → Type 0 = λ s. IsAmong free s in
    elim (cases_lt 0 state) [
      | inr none ↦
          let is_root : state ≡ 0 = omega arith in
          let P : List ℕ → Type 0 = λ w. EndsWith w r in
          let empty : r ≡ [] = ends_of_nil r (subst P (ap (word words) is_root ∙ are.root) ends) in
          let same : root ≡ state = are.apart root state in_words within (empty ∙ sym (ap (word words) is_root ∙ are.root)) in
          inl (subst A same walk.starts)
      | inl some ↦
          elim (ends_shorter s r ends) [
            | inl same ↦ inl (subst A (are.apart root state in_words within same) walk.starts)
            | inr shorter ↦
                let link : ℕ = get_or links state 0 in
                let is : IsLink words state link = linked state within in
                let less : length (word words link) < length s = link_shorter words are state link some within is in
                elim (reach_by bound words are links linked notes root free stopped in_words walk link (omega arith) is.within (is.longest.longest root in_words shorter)) [
                  | inl among ↦
                      elim (walk.all among.place state among.within (record { some = some; within = within; linked = sym among.is })) [
                        | inl reached ↦ inl reached
                        | inr stop ↦ inr (record {
                          other = state;
                          noted = stop.noted;
                          within = within;
                          ends = ends_all s;
                          above = ends;
                          note = stop.note;
                        })
                      ]
                  | inr blocked ↦ inr (record {
                    other = blocked.other;
                    noted = blocked.noted;
                    within = blocked.within;
                    ends =
                        ends_within s (drop 1 s) (word words blocked.other) (drop_ends s)
                        (ends_within (drop 1 s) (word words link) (word words blocked.other) is.longest.ends blocked.ends);
                    above = blocked.above;
                    note = blocked.note;
                  })
                ]
          ]
    ]

-- a walk reaches each state whose word ends with the root's, or stops on the way
pub reach : (words : List (List ℕ)) → AreWords words → (links : List ℕ) → AreLinks words links → (notes : ℕ → ℕ → Type 0)
    (root : ℕ) (free stopped : List ℕ) → root < length words → IsWalk words links notes root free stopped
    → (state : ℕ) → state < length words → EndsWith (word words state) (word words root)
    → IsAmong free state ⊎ IsBlocked words notes root state
reach words are links linked notes root free stopped in_words walk state within ends =
    reach_by (length (word words state) + 1) words are links linked notes root free stopped in_words walk state (omega arith) within ends
