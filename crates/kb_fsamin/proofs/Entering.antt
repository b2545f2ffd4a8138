-- The moves into the states of a block, along their links.
use Rattle.std.proofs.Common.{◌≡◌, ℕ, suc, ◌+◌, ◌<◌, List, [], ◌∷◌, ◌++◌, length, get_or, take, Contains, refl, sym, ◌∙◌, subst, inl, inr, arith}
use Rattle.std.proofs.lemmas.Bool.{cases_eq, cases_lt}
use Rattle.std.proofs.lemmas.List.Elements.{Contains-push, Contains-append_left, Contains-push_cases}
use Rattle.kb_fsa.specs.Graphs.{source, AreLinked, IsWalk}
use Rattle.kb_fsamin.specs.Splitting.{AreGathered, AreListing}
use Rattle.kb_fsamin.proofs.SplitSteps.{more_cases, more_left, more_last}

pub gathered_none : (edges : List (ℕ × ℕ)) → AreGathered edges [] []
gathered_none edges = record {
  sound = λ move found. absurd (omega (arith, found.1));
  complete = λ move h found. absurd (omega (arith, found.1));
}

module _ (edges : List (ℕ × ℕ)) (count : ℕ) (last earlier : List ℕ) (linked : AreLinked edges (length edges) count last earlier)
    (states : List ℕ) (done : ℕ) (within : done < length states) where
  -- a state is begun
  pub listing_start : (listed : List ℕ) → get_or states done 0 < count → AreGathered edges (take done states) listed
      → AreListing edges states done (get_or last (get_or states done 0) 0) listed
  listing_start listed known before = record {
    sound = λ move found. let was = before.sound move found in (was.0, more_left states done _ within was.1);
    complete = before.complete;
    walk = record {
      next = linked.last_is (get_or states done 0);
      done = λ place above low is. absurd (linked.none_later (get_or states done 0) place known above low is);
    };
  }

  -- a move of it is listed
  pub listing_more : (place : ℕ) (listed : List ℕ) → AreListing edges states done (suc place) listed
      → AreListing edges states done (get_or earlier place 0) (listed ++ place ∷ [])
  listing_more place listed before =
      let here = before.walk.next place refl in
      let from : (number : ℕ) → number ≡ get_or earlier place 0 → IsWalk edges (get_or states done 0) number (Contains (listed ++ place ∷ [])) =
      λ number is. record {
        next = λ other more.
            let found = linked.earlier_is place other here.0 (sym is ∙ more) in
            (omega (arith, found.0, here.0), found.1 ∙ here.1);
        done = λ other above low same. elim (cases_eq other place) [
          | inl now ↦ subst (Contains (listed ++ place ∷ [])) (sym now) (Contains-push listed place)
          | inr apart ↦ elim (cases_lt other place) [
            | inl less ↦ absurd (linked.none_between place other here.0 (omega arith) less (same ∙ sym here.1))
            | inr later ↦ Contains-append_left listed (place ∷ []) other (before.walk.done other (omega arith) low same)
          ]
        ];
      } in
      record {
        sound = λ move found. elim (Contains-push_cases listed place move found) [
          | inl early ↦ before.sound move early
          | inr now ↦
              let P : ℕ → Type 0 = λ m. (m < length edges) × Contains (take (done + 1) states) (source edges m) in
              subst P now (here.0, more_last states done (source edges place) within (sym here.1))
        ];
        complete = λ move low found. Contains-append_left listed (place ∷ []) move (before.complete move low found);
        walk = from (get_or earlier place 0) refl;
      }

  -- all its moves are
  pub listing_end : (listed : List ℕ) → AreListing edges states done 0 listed → AreGathered edges (take (done + 1) states) listed
  listing_end listed all = record {
    sound = all.sound;
    complete = λ move low found. elim (more_cases states done (source edges move) within found) [
      | inl early ↦ all.complete move low early
      | inr now ↦ all.walk.done move (omega arith) low (sym now)
    ];
  }
