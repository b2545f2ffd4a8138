-- Runs that go on from a later moment of the outside, and what follows for the value of a result.
use Rattle.std.proofs.Common.{◌∙◌, ℕ, List, Result, Ok, Err, IfOk, refl, arith}
use Rattle.kb_io.specs.Outside.{Outside, outside, IsTold, GoesOn, IsUnchanged}
use Rattle.kb_io.specs.States.{ShelfState, SourceState, SinkState, SinkGoesOn}
use Rattle.kb_task.specs.Loads.{OnlyLoads}
use Rattle.kb_task.specs.Runs.{HasFailed, FaultIsCounted, IsRun}
use Rattle.kb_task.specs.declared.status.Status.{Status}
use Rattle.kb_task.specs.declared.status.Status.TheVariants.{Fault}
use Rattle.kb_task.specs.declared.status.Which.{Which}
use Rattle.kb_task.specs.declared.status.Which.TheVariants.{Load, Store, Input, Output}

-- a later moment of a later moment
pub goes_on-along : {a b c : Outside} → GoesOn a b → GoesOn b c → GoesOn a c
goes_on-along one two = record {
  shelf = record {
    told = two.shelf.told ∙ one.shelf.told;
    load_faults = omega (arith, one.shelf.load_faults, two.shelf.load_faults);
    store_faults = omega (arith, one.shelf.store_faults, two.shelf.store_faults);
  };
  input = record { told = two.input.told ∙ one.input.told; faults = omega (arith, one.input.faults, two.input.faults) };
  output = record { told = two.output.told ∙ one.output.told; faults = omega (arith, one.output.faults, two.output.faults) };
}

failed_after : (a b c : Outside) (which : Which) → GoesOn a b → HasFailed b c which → HasFailed a c which
failed_after a b c (Load name) before rose = omega (arith, before.shelf.load_faults, rose)
failed_after a b c (Store name) before rose = omega (arith, before.shelf.store_faults, rose)
failed_after a b c Input before rose = omega (arith, before.input.faults, rose)
failed_after a b c Output before rose = omega (arith, before.output.faults, rose)

failed_before : (a b c : Outside) (which : Which) → GoesOn b c → HasFailed a b which → HasFailed a c which
failed_before a b c (Load name) after rose = omega (arith, after.shelf.load_faults, rose)
failed_before a b c (Store name) after rose = omega (arith, after.shelf.store_faults, rose)
failed_before a b c Input after rose = omega (arith, after.input.faults, rose)
failed_before a b c Output after rose = omega (arith, after.output.faults, rose)

-- a failure that was counted was counted also over a longer time
pub counted_after : (a b c : Outside) (status : Status) → GoesOn a b → FaultIsCounted b c status → FaultIsCounted a c status
counted_after a b c (Fault which) before rose = failed_after a b c which before rose
counted_after a b c _ before rose = tt

pub counted_before : (a b c : Outside) (status : Status) → GoesOn b c → FaultIsCounted a b status → FaultIsCounted a c status
counted_before a b c (Fault which) after rose = failed_before a b c which after rose
counted_before a b c _ after rose = tt

-- what is told is told later too
pub told-later : {a b : Outside} → GoesOn a b → IsTold a → IsTold b
told-later goes_on told = record {
  shelf = rw goes_on.shelf.told told.shelf;
  input = rw goes_on.input.told told.input;
  output = rw goes_on.output.told told.output;
}

module _ (before loaded : ShelfState) (input : SourceState) (output : SinkState) (loads : OnlyLoads before loaded) where
  -- files were loaded, and nothing else was done
  pub goes_on-loads : GoesOn (outside before input output) (outside loaded input output)
  goes_on-loads = record {
    shelf = loads.goes_on;
    input = record { told = refl; faults = omega arith };
    output = record { told = refl; faults = omega arith };
  }

  pub unchanged-loads : IsUnchanged (outside before input output) (outside loaded input output)
  unchanged-loads = record { unread = refl; unwritten = refl; files = loads.files }

  -- a run that went on after files were loaded
  pub run-after_loads : {Means Then : Outside → Outside → Status → Type 0} {MayStore Stored : List ℕ → Type 0} (after : Outside) (status : Status)
      → IsRun Then Stored (outside loaded input output) after status → ((name : List ℕ) → Stored name → MayStore name)
      → (IsTold (outside before input output) → Then (outside loaded input output) after status → Means (outside before input output) after status)
      → IsRun Means MayStore (outside before input output) after status
  run-after_loads after status run stored means = record {
    means = λ told. means told (run.means (told-later goes_on-loads told));
    fault = counted_after (outside before input output) (outside loaded input output) after status goes_on-loads run.fault;
    goes_on = goes_on-along goes_on-loads run.goes_on;
    files = λ name may_not. run.files name (λ is. may_not (stored name is)) ∙ loads.files name;
  }

  -- a run that ended after files were loaded
  pub run-ends : {Means : Outside → Outside → Status → Type 0} {MayStore : List ℕ → Type 0} (status : Status)
      → FaultIsCounted (outside before input output) (outside loaded input output) status
      → (IsTold (outside before input output) → Means (outside before input output) (outside loaded input output) status)
      → IsRun Means MayStore (outside before input output) (outside loaded input output) status
  run-ends status fault means = record {
    means = means;
    fault = fault;
    goes_on = goes_on-loads;
    files = λ name may_not. loads.files name;
  }

-- files were loaded, and then others
pub loads-along : {a b c : ShelfState} → OnlyLoads a b → OnlyLoads b c → OnlyLoads a c
loads-along one two = record {
  goes_on = record {
    told = two.goes_on.told ∙ one.goes_on.told;
    load_faults = omega (arith, one.goes_on.load_faults, two.goes_on.load_faults);
    store_faults = omega (arith, one.goes_on.store_faults, two.goes_on.store_faults);
  };
  files = λ name. two.files name ∙ one.files name;
  stores = two.stores ∙ one.stores;
}

-- a run that only wrote on the output
pub run-prints : {Means : Outside → Outside → Status → Type 0} {MayStore : List ℕ → Type 0} (shelf : ShelfState) (input : SourceState)
    (before after : SinkState) (status : Status) → SinkGoesOn before after
    → FaultIsCounted (outside shelf input before) (outside shelf input after) status
    → (IsTold (outside shelf input before) → Means (outside shelf input before) (outside shelf input after) status)
    → IsRun Means MayStore (outside shelf input before) (outside shelf input after) status
run-prints shelf input before after status goes_on fault means = record {
  means = means;
  fault = fault;
  goes_on = record {
    shelf = record { told = refl; load_faults = omega arith; store_faults = omega arith };
    input = record { told = refl; faults = omega arith };
    output = goes_on;
  };
  files = λ name may_not. refl;
}

module _ {X E : Type 0} {P Q : X → Type 0} where
  -- what holds of the value of a result has what follows from it
  pub if_ok : (result : Result X E) → IfOk result P → ((x : X) → P x → Q x) → IfOk result Q
  if_ok (Ok x) holds then_so = then_so x holds
  if_ok (Err e) holds then_so = tt
