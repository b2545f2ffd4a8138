-- What the copies hold after entries.
use Rattle.std.proofs.Common.{◌≡◌, Bool, true, false, List, [], ◌∷◌, ◌++◌, Some, None, fold, refl, ap}
use Rattle.std.specs.Prelude.{cond}
use Rattle.kb_publish.specs.declared.versions.Shown.{Shown}
use Rattle.kb_publish.specs.declared.versions.View.{View}
use Rattle.kb_publish.specs.declared.versions.Entry.{Entry}
use Rattle.kb_publish.specs.declared.versions.Entry.TheVariants.{Begins, Operation}
use Rattle.kb_publish.specs.Entries.{stage, entered, operations}
use Rattle.kb_publish.specs.Versions.{state_of, MayPublish, further, first}

-- one operation more is told
pub operations_with_one_more : {O : Type 0} (entries : List (Entry O)) (operation : O)
    → operations (entries ++ Operation operation ∷ []) ≡ operations entries ++ operation ∷ []
operations_with_one_more [] operation = refl
operations_with_one_more (Begins ∷ entries) operation = operations_with_one_more entries operation
operations_with_one_more (Operation other ∷ entries) operation = ap (λ (all : List _). other ∷ all) (operations_with_one_more entries operation)

module _ {S O : Type 0} (applied : S → O → S) where
  -- the state is the one before with each operation applied
  pub applies_all : (p : Bool × S) (entries : List (Entry O)) → (fold (entered applied) p entries).1 ≡ fold applied p.1 (operations entries)
  applies_all p [] = refl
  applies_all p (Begins ∷ entries) = applies_all (true, p.1) entries
  applies_all p (Operation operation ∷ entries) = applies_all (p.0, applied p.1 operation) entries

  stays_begun : (p : Bool × S) (entries : List (Entry O)) → p.0 ≡ true → (fold (entered applied) p entries).0 ≡ true
  stays_begun p [] begun = begun
  stays_begun p (Begins ∷ entries) begun = stays_begun (true, p.1) entries refl
  stays_begun p (Operation operation ∷ entries) begun = stays_begun (p.0, applied p.1 operation) entries begun

  -- where one may publish, publishing has begun afterwards
  pub has_begun : {V : Type 0} (state : V → S) (v : View S) (shown : Shown V) (entries : List (Entry O)) → MayPublish v shown entries
      → (fold (entered applied) (stage state shown) entries).0 ≡ true
  has_begun state v shown entries (further publishes begun) = stays_begun (stage state shown) entries begun
  has_begun state v shown entries (first nothing unbegun begins) = ap (λ (all : List (Entry O)). (fold (entered applied) (stage state shown) all).0) begins

module _ {V S : Type 0} (state : V → S) where
  pub shown_once_begun : (shown : Shown V) → shown.begun ≡ true → state_of state shown ≡ Some (state shown.version)
  shown_once_begun shown begun = ap (λ (b : Bool). cond b (Some (state shown.version)) None) begun

  pub unshown_before : (shown : Shown V) → shown.begun ≡ false → state_of state shown ≡ None
  unshown_before shown unbegun = ap (λ (b : Bool). cond b (Some (state shown.version)) None) unbegun
