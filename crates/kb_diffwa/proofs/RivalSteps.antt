-- The rivals that a word has, by their runs, as a letter more is read.
use Rattle.std.proofs.Common.{◌≡◌, ◌⊎◌, ℕ, List, [], ◌∷◌, ◌++◌, append_assoc, append-nil, refl, sym, ap, ◌∙◌, subst, inl, inr}
use Rattle.std.proofs.lemmas.List.{same_from_push}
use Rattle.kb_diffwa.specs.Rivals.{Rival}
use Rattle.kb_diffwa.specs.RivalMoves.{GoesOn, first_rival}
use Rattle.kb_diffwa.proofs.RivalRuns.{RivalRun, rival_end, rival_on}

-- ---- the last letter of a word

pub data HasLast (w : List ℕ) : Type 0 where
  is_empty : w ≡ [] → HasLast w
  has_last : (front : List ℕ) (letter : ℕ) → w ≡ front ++ letter ∷ [] → HasLast w

pub last_of : (w : List ℕ) → HasLast w
last_of [] = is_empty refl
last_of (x ∷ w) = by (last_of w)
  where
    by : HasLast w → HasLast (x ∷ w)
    by (is_empty none) = has_last [] x (ap (λ rest. x ∷ rest) none)
    by (has_last front letter is) = has_last (x ∷ front) letter (ap (λ rest. x ∷ rest) is)

module _ (n : ℕ) (step : ℕ → ℕ → ℕ → ℕ) where
  -- ---- runs with a letter more

  run_push : (s : List ℕ) (rival mid last : Rival) (a : ℕ) → RivalRun n step rival s mid → GoesOn n step mid a last
      → RivalRun n step rival (s ++ a ∷ []) last
  run_push [] rival mid last a rival_end goes = rival_on goes rival_end
  run_push (x ∷ s) rival mid last a (rival_on {later = later} on rest) goes =
      rival_on on (run_push s later mid last a rest goes)

  record IsLastStep (rival : Rival) (s : List ℕ) (a : ℕ) (last : Rival) : Type 0 where
    mid : Rival
    run : RivalRun n step rival s mid
    goes : GoesOn n step mid a last

  run_split : (s : List ℕ) (rival last : Rival) (a : ℕ) → RivalRun n step rival (s ++ a ∷ []) last
      → IsLastStep rival s a last
  run_split [] rival last a (rival_on {later = later} on rival_end) =
      record { mid = rival; run = rival_end; goes = on }
  run_split (x ∷ s) rival last a (rival_on {later = later} on rest) =
      let it = run_split s later last a rest in record { mid = it.mid; run = rival_on on it.run; goes = it.goes }

  run_none : (rival last : Rival) → RivalRun n step rival [] last → rival ≡ last
  run_none rival last rival_end = refl

  -- ---- the rivals of a word

  -- the first rival runs to this one beside a suffix
  pub record HasRun (w : List ℕ) (rival : Rival) : Type 0 where
    pub front : List ℕ
    pub suffix : List ℕ
    pub whole : w ≡ front ++ suffix
    pub run : RivalRun n step first_rival suffix rival

  pub has_first : (w : List ℕ) → HasRun w first_rival
  has_first w = record { front = w; suffix = []; whole = sym (append-nil w); run = rival_end }

  pub first_alone : (rival : Rival) → HasRun [] rival → rival ≡ first_rival
  first_alone rival has = by has.front has.suffix has.whole has.run
    where
      by : (front suffix : List ℕ) → [] ≡ front ++ suffix → RivalRun n step first_rival suffix rival → rival ≡ first_rival
      by [] [] whole run = sym (run_none first_rival rival run)
      by [] (x ∷ suffix) whole run = cc
      by (x ∷ front) suffix whole run = cc

  -- a rival of the word that the letter leads on
  pub record IsStepped (w : List ℕ) (a : ℕ) (rival : Rival) : Type 0 where
    pub mid : Rival
    pub before : HasRun w mid
    pub goes : GoesOn n step mid a rival

  pub has_push : (w : List ℕ) (a : ℕ) (rival : Rival) → IsStepped w a rival → HasRun (w ++ a ∷ []) rival
  has_push w a rival stepped =
      let before = stepped.before in record {
        front = before.front;
        suffix = before.suffix ++ a ∷ [];
        whole = ap (λ u. u ++ a ∷ []) before.whole ∙ append_assoc before.front before.suffix (a ∷ []);
        run = run_push before.suffix first_rival stepped.mid rival a before.run stepped.goes;
      }

  pub has_split : (w : List ℕ) (a : ℕ) (rival : Rival) → HasRun (w ++ a ∷ []) rival
      → (rival ≡ first_rival) ⊎ IsStepped w a rival
  has_split w a rival has = by (last_of has.suffix)
    where
      by : HasLast has.suffix → (rival ≡ first_rival) ⊎ IsStepped w a rival
      by (is_empty none) =
          let P : List ℕ → Type 0 = λ s. RivalRun n step first_rival s rival in
          inl (sym (run_none first_rival rival (subst P none has.run)))
      by (has_last s letter is) =
          let P : List ℕ → Type 0 = λ s. RivalRun n step first_rival s rival in
          let split = run_split s first_rival rival letter (subst P is has.run) in
          let whole : w ++ a ∷ [] ≡ (has.front ++ s) ++ letter ∷ [] =
          has.whole ∙ ap (λ u. has.front ++ u) is ∙ sym (append_assoc has.front s (letter ∷ [])) in
          let parts = same_from_push w (has.front ++ s) a letter whole in
          let Q : ℕ → Type 0 = λ z. GoesOn n step split.mid z rival in
          inr (record {
            mid = split.mid;
            before = record { front = has.front; suffix = s; whole = parts.0; run = split.run };
            goes = subst Q (sym parts.1) split.goes;
          })
