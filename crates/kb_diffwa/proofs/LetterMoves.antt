-- The moves of a set of rivals by the first letters.
use Rattle.std.proofs.Common.{◌≡◌, ℕ, zero, suc, ◌+◌, ◌<◌, ◌≤◌, List, [], ◌∷◌, ◌++◌, Some, None, refl, sym, ◌∙◌, subst, inl, inr, arith}
use Rattle.std.specs.List.{All}
use Rattle.std.proofs.lemmas.Bool.{cases_eq, cases_lt, le-ltb}
use Rattle.std.proofs.lemmas.List.Elements.{All-nil, All-push}
use Rattle.kb_fsa.specs.Table.{Ascends, lookup}
use Rattle.kb_fsa.proofs.Lookups.{Ascends-push, lookup-push_other, lookup-push_same, lookup_above}
use Rattle.kb_explore.specs.Machine.{AreMovesOf}
use Rattle.kb_diffwa.specs.declared.rivals.Rivals.{Rivals}
use Rattle.kb_diffwa.specs.RivalSets.{Steps, followed, rival_sets}

module _ (n count : ℕ) (letters : List Steps) (set : List Rivals) where
  -- they are by the letters up to the bound
  pub record AreMovesTo (bound : ℕ) (moves : List (ℕ × List Rivals)) : Type 0 where
    pub ascends : Ascends moves
    pub symbols : All (λ move. (0 < move.0) × (move.0 ≤ bound)) moves
    pub follow : (symbol : ℕ) → symbol ≤ bound → lookup moves symbol ≡ followed n count letters set symbol

  pub no_moves : AreMovesTo 0 []
  no_moves = record {
    ascends = λ i j d less within. absurd (let no : ⊥ = omega arith in no);
    symbols = All-nil (λ (move : ℕ × List Rivals). (0 < move.0) × (move.0 ≤ 0));
    follow = by;
  }
    where
      by : (symbol : ℕ) → symbol ≤ 0 → lookup {X = List Rivals} [] symbol ≡ followed n count letters set symbol
      by zero within = refl
      by (suc symbol) within = absurd (let no : ⊥ = omega arith in no)

  -- all letters up to the bound are below the next
  below : (bound : ℕ) (moves : List (ℕ × List Rivals)) → AreMovesTo bound moves → All (λ move. move.0 < bound + 1) moves
  below bound moves are k d within = let most = (are.symbols k d within).1 in omega arith

  wider : (bound : ℕ) (moves : List (ℕ × List Rivals)) → AreMovesTo bound moves
      → All (λ move. (0 < move.0) × (move.0 ≤ bound + 1)) moves
  wider bound moves are k d within =
      let both = are.symbols k d within in
      let most = both.1 in (both.0, omega arith)

  pub one_more : (bound : ℕ) (moves : List (ℕ × List Rivals)) (next : List Rivals)
      → followed n count letters set (bound + 1) ≡ Some next → AreMovesTo bound moves
      → AreMovesTo (bound + 1) (moves ++ (bound + 1, next) ∷ [])
  one_more bound moves next leads are = record {
    ascends = Ascends-push moves (bound + 1) next are.ascends (below bound moves are);
    symbols = All-push (λ (move : ℕ × List Rivals). (0 < move.0) × (move.0 ≤ bound + 1)) moves (bound + 1, next)
        (wider bound moves are) (omega arith, omega arith);
    follow = λ symbol within. elim (cases_eq symbol (bound + 1)) [
      | inl last ↦
          let P : ℕ → Type 0 = λ z. lookup (moves ++ (bound + 1, next) ∷ []) z ≡ followed n count letters set z in
          subst P (sym last) (lookup-push_same moves (bound + 1) next (lookup_above moves (bound + 1) (below bound moves are)) ∙ sym leads)
      | inr before ↦
          lookup-push_other moves (bound + 1) next symbol before ∙ are.follow symbol (omega arith)
    ];
  }

  pub none_more : (bound : ℕ) (moves : List (ℕ × List Rivals)) → followed n count letters set (bound + 1) ≡ None
      → AreMovesTo bound moves → AreMovesTo (bound + 1) moves
  none_more bound moves leads are = record {
    ascends = are.ascends;
    symbols = wider bound moves are;
    follow = λ symbol within. elim (cases_eq symbol (bound + 1)) [
      | inl last ↦
          let P : ℕ → Type 0 = λ z. lookup moves z ≡ followed n count letters set z in
          subst P (sym last) (lookup_above moves (bound + 1) (below bound moves are) ∙ sym leads)
      | inr before ↦ are.follow symbol (omega arith)
    ];
  }

  -- other symbols lead nowhere
  nowhere : (symbol : ℕ) → n < symbol → followed n count letters set symbol ≡ None
  nowhere zero above = refl
  nowhere (suc index) above = rw (le-ltb index n (omega arith)) refl

  pub all_letters : (moves : List (ℕ × List Rivals)) → AreMovesTo n moves
      → AreMovesOf (rival_sets n count letters) n set moves
  all_letters moves are = record {
    ascends = are.ascends;
    symbols = are.symbols;
    follow = λ symbol. elim (cases_lt n symbol) [
      | inl above ↦
          lookup_above moves symbol (λ k d within. let most = (are.symbols k d within).1 in omega arith)
          ∙ sym (nowhere symbol above)
      | inr within ↦ are.follow symbol within
    ];
  }
