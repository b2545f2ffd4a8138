-- What the classes that are followed say of all accepted texts.
use Rattle.std.proofs.Common.{◌≡◌, ◌⊎◌, ℕ, suc, ◌<◌, ◌≤◌, Bool, true, false, List, [], ◌∷◌, ◌++◌, length, get_or, sym, ◌∙◌, subst, inl, inr, arith, append-nil, append_assoc}
use Rattle.std.specs.List.{Contains}
use Rattle.std.proofs.lemmas.Bool.{cases_lt, false≢true}
use Rattle.kb_word.specs.Words.{Less}
use Rattle.kb_word.specs.ShortlexLaws.{shortlex_transitive}
use Rattle.kb_explore.specs.Exploration.{IsTraced}
use Rattle.kb_fsadet.specs.Nondeterministic.{Nondeterministic, LeadsFrom, LeadsSomehow, AcceptsSomehow, moves_from, accepts_at}
use Rattle.kb_fsadet.specs.Avoidance.{any_accepts}
use Rattle.kb_fsadet.proofs.Determinised.{list_any-found, list_any-from}
use Rattle.kb_fsaleast.specs.LeastText.{IsLeastAccepted}
use Rattle.kb_fsaleast.specs.Classes.{word_at, IsFound, NoneAccepts, Progress}
use Rattle.kb_fsaleast.proofs.Texts.{not_less_longer, not_less_continued, traced_once}
use Rattle.kb_fsaleast.proofs.Members.{has_within}

-- the text is no less than the word of a class that isn't followed
record IsLate (followed : ℕ) (words : List (List ℕ)) (text : List ℕ) : Type 0 where
  pub place : ℕ
  pub from_there : followed ≤ place
  pub within : place < length words
  pub not_less : ¬ Less text (word_at words place)

module _ {automaton : Nondeterministic} {members : List (List ℕ)} {origins : List (ℕ × ℕ)} {marks : List Bool} {followed : ℕ}
    (progress : Progress automaton members origins marks followed) where
  Reaches : List ℕ → ℕ → Type 0
  Reaches text state = IsFound members progress.words text state ⊎ IsLate followed progress.words text

  late : (text : List ℕ) (place : ℕ) → followed ≤ place → place < length progress.words → ¬ Less text (word_at progress.words place) → (symbol : ℕ)
      → IsLate followed progress.words (text ++ symbol ∷ [])
  late text place from within not_less symbol = record {
    place = place;
    from_there = from;
    within = within;
    not_less = not_less_longer text (word_at progress.words place) symbol not_less;
  }

  reach_more : (text : List ℕ) (state symbol target : ℕ) → Reaches text state → Contains (moves_from automaton state) (symbol, target)
      → Reaches (text ++ symbol ∷ []) target
  unfolding Reaches
  reach_more text state symbol target (inr is) move = inr (late text is.place is.from_there is.within is.not_less symbol)
  reach_more text state symbol target (inl found) move =
      let within = has_within members found.place state found.has in
      let count = progress.classes.one_word_each in
      elim (cases_lt found.place followed) [
        | inl before ↦
            let on = (progress.done found.place before).targets state symbol target found.has move in
            inl (record {
              place = on.place;
              has = on.has;
              not_less = not_less_continued text (word_at progress.words found.place) (word_at progress.words on.place) symbol found.not_less on.not_less;
            })
        | inr past ↦ inr (late text found.place past (omega arith) found.not_less symbol)
      ]

  reach_on : (front text : List ℕ) (state target : ℕ) → Reaches front state → LeadsFrom automaton state text target → Reaches (front ++ text) target
  unfolding Reaches
  reach_on front [] state target reaches same =
      let P : List ℕ → Type 0 = λ u. Reaches u target in
      let Q : ℕ → Type 0 = λ s. Reaches front s in
      subst P (sym (append-nil front)) (subst Q same reaches)
  reach_on front (symbol ∷ text) state target reaches leads =
      let P : List ℕ → Type 0 = λ u. Reaches u target in
      subst P (append_assoc front (symbol ∷ []) text)
      (reach_on (front ++ symbol ∷ []) text leads.0 target (reach_more front state symbol leads.0 reaches leads.1) leads.2)

  -- a state to which a text leads is found by it, or the text comes later
  reached : (text : List ℕ) (state : ℕ) → LeadsSomehow automaton text state → Reaches text state
  unfolding Reaches
  reached text state leads = reach_on [] text leads.start state (inl (progress.initial leads.start leads.is_initial)) leads.leads

  -- where a text is accepted, it comes later
  accepted_late : (text : List ℕ) → AcceptsSomehow automaton text → IsLate followed progress.words text
  unfolding Reaches
  accepted_late text accepts =
      let count = progress.classes.one_word_each in
      elim (reached text accepts.0 accepts.1) [
        | inr is ↦ is
        | inl found ↦ elim (cases_lt found.place followed) [
          | inl before ↦ absurd ((progress.done found.place before).rejects accepts.0 found.has accepts.2)
          | inr past ↦
              let within = has_within members found.place accepts.0 found.has in
              record { place = found.place; from_there = past; within = omega arith; not_less = found.not_less }
        ]
      ]

  -- where all classes are followed, nothing is accepted
  pub none_accepted : length members ≤ followed → (text : List ℕ) → ¬ AcceptsSomehow automaton text
  none_accepted whole text accepts =
      let is = accepted_late text accepts in
      let from = is.from_there in
      let within = is.within in
      let count = progress.classes.one_word_each in
      omega arith

  -- where the next has a state that accepts, its word is the least text
  pub least_accepted : followed < length members → any_accepts automaton (get_or members followed []) ≡ true → (text : List ℕ)
      → IsTraced origins (suc followed) text → IsLeastAccepted automaton text
  least_accepted within accepts text traced =
      let count = progress.classes.one_word_each in
      let found = list_any-found (accepts_at automaton) (get_or members followed []) accepts in
      let P : List ℕ → Type 0 = λ w. IsLeastAccepted automaton w in
      subst P (traced_once (progress.classes.traced followed (omega arith)) traced) (record {
        accepted = (found.0, progress.classes.lead followed found.0 found.1.0, found.1.1);
        least = λ other is less.
            let later = accepted_late other is in
            let from = later.from_there in
            elim (cases_lt followed later.place) [
              | inl after ↦
                  later.not_less (shortlex_transitive other (word_at progress.words followed) (word_at progress.words later.place) less
                  (progress.classes.ascending followed later.place [] after later.within))
              | inr past ↦
                  let same : followed ≡ later.place = omega arith in
                  let Q : ℕ → Type 0 = λ n. Less other (word_at progress.words n) in
                  later.not_less (subst Q same less)
            ];
      })

pub none_accepts : (automaton : Nondeterministic) (members : List (List ℕ)) (place : ℕ) → any_accepts automaton (get_or members place []) ≡ false
    → NoneAccepts automaton members place
none_accepts automaton members place none state has accepts =
    false≢true (sym none ∙ list_any-from (accepts_at automaton) (get_or members place []) state has accepts)
