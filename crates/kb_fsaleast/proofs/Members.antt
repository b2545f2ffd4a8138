-- Classes with one more at the end.
use Rattle.std.proofs.Common.{◌≡◌, ◌⊎◌, ℕ, suc, ◌<◌, Bool, IsTrue, List, [], ◌∷◌, ◌++◌, length, refl, sym, ◌∙◌, subst, inl, inr, arith}
use Rattle.std.specs.List.{All, Contains}
use Rattle.std.proofs.lemmas.Bool.{cases_lt}
use Rattle.std.proofs.lemmas.List.{length_push, get_or_past, get_or_push, get_or_append_left}
use Rattle.std.proofs.lemmas.List.Quantifiers.{all_pairs_push}
use Rattle.kb_word.specs.Words.{Less}
use Rattle.kb_explore.specs.Exploration.{IsTraced}
use Rattle.kb_explore.proofs.Lists.{number_cases}
use Rattle.kb_fsadet.specs.Nondeterministic.{Nondeterministic, LeadsSomehow}
use Rattle.kb_fsadet.specs.SubsetConstruction.{set_of}
use Rattle.kb_fsadet.proofs.Sets.{Contains-none, Contains-set_of}
use Rattle.kb_fsaleast.specs.Marks.{is_marked, AreUnseen}
use Rattle.kb_fsaleast.specs.Classes.{Has, word_at, AreClasses, IsFound, IsFollowed}
use Rattle.kb_fsaleast.proofs.Texts.{not_before, IsTraced-kept}

pub has_within : (members : List (List ℕ)) (place state : ℕ) → Has members place state → place < length members
has_within members place state has =
    elim (cases_lt place (length members)) [
      | inl within ↦ within
      | inr past ↦
          let P : List ℕ → Type 0 = λ class. Contains class state in
          absurd (Contains-none state (subst P (get_or_past members place [] past) has))
    ]

pub word_kept : (words : List (List ℕ)) (word : List ℕ) (place : ℕ) → place < length words → word_at (words ++ word ∷ []) place ≡ word_at words place
word_kept words word place within = get_or_append_left words (word ∷ []) [] place within

pub word_last : (words : List (List ℕ)) (word : List ℕ) (place : ℕ) → place ≡ length words → word_at (words ++ word ∷ []) place ≡ word
word_last words word place same = get_or_push words word [] place (sym same)

module _ (members : List (List ℕ)) (class : List ℕ) where
  pub has_kept : (place state : ℕ) → Has members place state → Has (members ++ class ∷ []) place state
  has_kept place state has =
      let P : List ℕ → Type 0 = λ c. Contains c state in
      subst P (sym (get_or_append_left members (class ∷ []) [] place (has_within members place state has))) has

  pub has_last : (state : ℕ) → Contains class state → Has (members ++ class ∷ []) (length members) state
  has_last state at =
      let P : List ℕ → Type 0 = λ c. Contains c state in
      subst P (sym (get_or_push members class [] (length members) refl)) at

  -- a class is one that was there, or the last one
  pub has_before : (place state : ℕ) → place < length members → Has (members ++ class ∷ []) place state → Has members place state
  has_before place state within has =
      let P : List ℕ → Type 0 = λ c. Contains c state in
      subst P (get_or_append_left members (class ∷ []) [] place within) has

  pub has_cases : (place state : ℕ) → Has (members ++ class ∷ []) place state
      → Has members place state ⊎ ((place ≡ length members) × Contains class state)
  has_cases place state has =
      elim (cases_lt place (length members)) [
        | inl within ↦ inl (has_before place state within has)
        | inr past ↦
            let top = has_within (members ++ class ∷ []) place state has in
            let more = length_push members class in
            let same : place ≡ length members = omega arith in
            let P : List ℕ → Type 0 = λ c. Contains c state in
            inr (same, subst P (get_or_push members class [] place (sym same)) has)
      ]

module _ {members words : List (List ℕ)} (count : length words ≡ length members) (class word : List ℕ) where
  -- what is found stays so
  pub found_kept : {text : List ℕ} {state : ℕ} → IsFound members words text state → IsFound (members ++ class ∷ []) (words ++ word ∷ []) text state
  found_kept {text} {state} found =
      let within = has_within members found.place state found.has in
      let P : List ℕ → Type 0 = λ w. Less text w in record {
        place = found.place;
        has = has_kept members class found.place state found.has;
        not_less = λ less. found.not_less (subst P (word_kept words word found.place (omega arith)) less);
      }

  -- what is followed too
  pub followed_kept : {automaton : Nondeterministic} (place : ℕ) → place < length members → IsFollowed automaton members words place
      → IsFollowed automaton (members ++ class ∷ []) (words ++ word ∷ []) place
  followed_kept place within followed = record {
    rejects = λ state has. followed.rejects state (has_before members class place state within has);
    targets = λ state symbol target has move.
        let P : List ℕ → Type 0 = λ w. IsFound (members ++ class ∷ []) (words ++ word ∷ []) (w ++ symbol ∷ []) target in
        subst P (sym (word_kept words word place (omega arith)))
        (found_kept (followed.targets state symbol target (has_before members class place state within has) move));
  }

module _ {automaton : Nondeterministic} {members : List (List ℕ)} {origins : List (ℕ × ℕ)} {marks : List Bool} {words : List (List ℕ)}
    (classes : AreClasses automaton members origins marks words) where
  -- a state with a mark is found by a text that is greater than all words
  pub mark_found : (text : List ℕ) (state : ℕ) → IsTrue (is_marked marks state) → All (λ other. Less other text) words
      → IsFound members words text state
  mark_found text state is less =
      let at = classes.marked state is in
      let within = has_within members at.0 state at.1 in
      let count = classes.one_word_each in record {
        place = at.0;
        has = at.1;
        not_less = not_before (word_at words at.0) text (less at.0 [] (omega arith));
      }

  -- where no state is without a mark, the classes stay as they are
  pub AreClasses-same : (states : List ℕ) (marks' : List Bool) → AreUnseen marks states [] marks'
      → AreClasses automaton members origins marks' words
  AreClasses-same states marks' unseen =
      let room = classes.room in
      let each = classes.one_mark_each in
      let same = unseen.one_each in
      let fewer = unseen.fewer in record {
        one_word_each = classes.one_word_each;
        one_origin_each = classes.one_origin_each;
        one_mark_each = same ∙ each;
        room = omega arith;
        lead = classes.lead;
        marked = λ state is. elim (unseen.marked state is) [
          | inl old ↦ classes.marked state old
          | inr none ↦ absurd (Contains-none state none)
        ];
        traced = classes.traced;
        from_earlier = classes.from_earlier;
        ascending = classes.ascending;
      }

  module _ (states fresh : List ℕ) (marks' : List Bool) (origin : ℕ × ℕ) (word : List ℕ) (unseen : AreUnseen marks states fresh marks') where
    -- what is marked is in a class, with the new one
    more_marked : (state : ℕ) → IsTrue (is_marked marks' state) → (place : ℕ) × Has (members ++ set_of fresh ∷ []) place state
    more_marked state is =
        elim (unseen.marked state is) [
          | inl old ↦ let at = classes.marked state old in (at.0, has_kept members (set_of fresh) at.0 state at.1)
          | inr new ↦ (length members, has_last members (set_of fresh) state ((Contains-set_of fresh state).1 new))
        ]

    more_lead : ((state : ℕ) → Contains states state → LeadsSomehow automaton word state)
        → (place state : ℕ) → Has (members ++ set_of fresh ∷ []) place state → LeadsSomehow automaton (word_at (words ++ word ∷ []) place) state
    more_lead leads place state has =
        let count = classes.one_word_each in
        let P : List ℕ → Type 0 = λ w. LeadsSomehow automaton w state in
        elim (has_cases members (set_of fresh) place state has) [
          | inl old ↦
              let within = has_within members place state old in
              subst P (sym (word_kept words word place (omega arith))) (classes.lead place state old)
          | inr new ↦
              let at = new.0 in
              subst P (sym (word_last words word place (omega arith))) (leads state (unseen.among state ((Contains-set_of fresh state).0 new.1)))
        ]

    more_traced : IsTraced (origins ++ origin ∷ []) (suc (length origins)) word → (place : ℕ) → place < length (words ++ word ∷ [])
        → IsTraced (origins ++ origin ∷ []) (suc place) (word_at (words ++ word ∷ []) place)
    more_traced trace place within =
        let more = length_push words word in
        let count = classes.one_word_each in
        let other_count = classes.one_origin_each in
        let P : List ℕ → Type 0 = λ w. IsTraced (origins ++ origin ∷ []) (suc place) w in
        elim (cases_lt place (length words)) [
          | inl old ↦ subst P (sym (word_kept words word place old)) (IsTraced-kept origin (classes.traced place old))
          | inr past ↦
              let same : place ≡ length words = omega arith in
              let at : length origins ≡ place = omega arith in
              let Q : ℕ → Type 0 = λ n. IsTraced (origins ++ origin ∷ []) (suc n) word in
              subst P (sym (word_last words word place same)) (subst Q at trace)
        ]

    -- the states without a mark are one class more
    pub AreClasses-push : 0 < length fresh → All (λ other. Less other word) words
        → ((state : ℕ) → Contains states state → LeadsSomehow automaton word state)
        → IsTraced (origins ++ origin ∷ []) (suc (length origins)) word
        → ((parent symbol : ℕ) → (suc parent, symbol) ≡ origin → suc parent < suc (length origins))
        → AreClasses automaton (members ++ set_of fresh ∷ []) (origins ++ origin ∷ []) marks' (words ++ word ∷ [])
    AreClasses-push some less leads trace earlier =
        let count = classes.one_word_each in
        let other_count = classes.one_origin_each in
        let room = classes.room in
        let each = classes.one_mark_each in
        let same = unseen.one_each in
        let fewer = unseen.fewer in
        let one = length_push members (set_of fresh) in
        let two = length_push words word in
        let three = length_push origins origin in record {
          one_word_each = omega arith;
          one_origin_each = omega arith;
          one_mark_each = same ∙ each;
          room = omega arith;
          lead = more_lead leads;
          marked = more_marked;
          traced = more_traced trace;
          from_earlier = λ number parent symbol at. elim (number_cases origins origin number (suc parent, symbol) at) [
            | inl old ↦ classes.from_earlier number parent symbol old
            | inr new ↦ let place = new.0 in let before = earlier parent symbol new.1 in omega arith
          ];
          ascending = all_pairs_push Less words word classes.ascending less;
        }
