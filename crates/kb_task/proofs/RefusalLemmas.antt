-- Runs that end at the load of a file which has a fault, and at none that has none.
use Rattle.std.proofs.Common.{◌≡◌, ◌∙◌, ℕ, List, inl, inr, refl, sym, ap, subst}
use Rattle.kb_task.specs.Loads.{EndsAtLoad, IsCause, stopped_at}
use Rattle.kb_task.specs.OneReason.{HasOneReason}
use Rattle.kb_task.specs.Refusals.{IsLoadFault, IsRefusalOrMemory, IsRefusedFor, IsRefusedOfTwo, RefusesNone, refused_first, refused_next}
use Rattle.kb_task.specs.Statuses.{IsFaultless}
use Rattle.kb_task.specs.declared.loading.LoadStop.{LoadStop}
use Rattle.kb_task.specs.declared.loading.LoadStop.TheVariants as stops
use Rattle.kb_task.specs.declared.status.FileFault.{FileFault}
use Rattle.kb_task.specs.declared.status.Refusal.TheVariants.{File}
use Rattle.kb_task.specs.declared.status.Status.{Status}
use Rattle.kb_task.specs.declared.status.Status.TheVariants.{Refused}
use Rattle.kb_task.proofs.LoadEnds.{memory_at_load}

-- ---- one file

same_name : {name other : List ℕ} {fault cause : FileFault} → Refused (File name fault) ≡ Refused (File other cause) → name ≡ other
same_name e = cc

same_fault : {name other : List ℕ} {fault cause : FileFault} → Refused (File name fault) ≡ Refused (File other cause) → fault ≡ cause
same_fault e = cc

module _ {IsFault : FileFault → Type 0} {file : List ℕ} where
  stop_refuses : (stop : LoadStop) (name : List ℕ) (fault : FileFault) → Refused (File name fault) ≡ stopped_at file stop → IsCause IsFault stop
      → IsRefusedFor IsFault file name fault
  stop_refuses (stops.Refused cause) name fault e is = record { is = same_name e; has = subst IsFault (sym (same_fault e)) is }
  stop_refuses stops.Failed name fault e is = cc
  stop_refuses stops.Memory name fault e is = cc

  -- a run that ended at the load with a refusal refused the file, for a fault that it has
  pub refused_at_load : (name : List ℕ) (fault : FileFault) → EndsAtLoad IsFault file (Refused (File name fault))
      → IsRefusedFor IsFault file name fault
  refused_at_load name fault ends = stop_refuses ends.stop name fault ends.is ends.cause

  module _ {Holds : Type 0} (reason : HasOneReason Holds IsFault) where
    -- what it holds it isn't refused for
    pub held_none : (name : List ℕ) (fault : FileFault) → Holds → ¬ IsRefusedFor IsFault file name fault
    held_none name fault held refused = reason.none held fault refused.has

    stop_exact : (stop : LoadStop) (name : List ℕ) (fault : FileFault) → IsCause IsFault stop → IsRefusedFor IsFault file name fault
        → IsFaultless (stopped_at file stop) → IsRefusalOrMemory name fault (stopped_at file stop)
    stop_exact (stops.Refused cause) name fault is refused faultless =
        inl (ap (λ (f : FileFault). Refused (File file f)) (reason.one cause fault is refused.has)
        ∙ ap (λ (n : List ℕ). Refused (File n fault)) (sym refused.is))
    stop_exact stops.Failed name fault is refused faultless = cc
    stop_exact stops.Memory name fault is refused faultless = inr refl

    -- where the file has a fault, a run that ends at its load refuses it for that, or for want of memory
    pub exact_at_load : (status : Status) (name : List ℕ) (fault : FileFault) → EndsAtLoad IsFault file status → IsRefusedFor IsFault file name fault
        → IsFaultless status → IsRefusalOrMemory name fault status
    exact_at_load status name fault ends refused faultless =
        subst (IsRefusalOrMemory name fault) (sym ends.is)
        (stop_exact ends.stop name fault ends.cause refused (subst IsFaultless ends.is faultless))

    -- where it holds what it has to, such a run ends for want of memory, whatever else is refused
    pub memory_or : (status : Status) (name : List ℕ) (fault : FileFault) → Holds → EndsAtLoad IsFault file status → IsFaultless status
        → IsRefusalOrMemory name fault status
    memory_or status name fault held ends faultless = inr (memory_at_load IsFault file status (reason.none held) faultless ends)

-- A run over one file: it ended at the load; or the file holds what it has to, and no file is refused for what is found
-- at a load.
pub data ReadsOne (IsFault : FileFault → Type 0) (file : List ℕ) (Holds : Type 0) (status : Status) : Type 0 where
  ends_there : EndsAtLoad IsFault file status → ReadsOne IsFault file Holds status
  reads_it : Holds → RefusesNone status → ReadsOne IsFault file Holds status

module _ {IsFault : FileFault → Type 0} {file : List ℕ} {Holds : Type 0} (name : List ℕ) (fault : FileFault) where
  pub refused_of_one : ReadsOne IsFault file Holds (Refused (File name fault)) → IsLoadFault fault → IsRefusedFor IsFault file name fault
  refused_of_one (ends_there ends) at_load = refused_at_load name fault ends
  refused_of_one (reads_it holds none) at_load = absurd (none at_load)

  pub exact_of_one : HasOneReason Holds IsFault → (status : Status) → ReadsOne IsFault file Holds status → IsRefusedFor IsFault file name fault
      → IsFaultless status → IsRefusalOrMemory name fault status
  exact_of_one reason status (ends_there ends) refused faultless = exact_at_load reason status name fault ends refused faultless
  exact_of_one reason status (reads_it holds none) refused faultless = absurd (held_none reason name fault holds refused)

-- ---- two files

-- A run over two files: it ended at the load of the first; or at that of the next, by what the first holds; or both
-- hold what they have to, and no file is refused for what is found at a load.
pub data ReadsTwo {Held : Type 0} (IsFault : FileFault → Type 0) (file : List ℕ) (Holds : Held → Type 0) (IsNextFault : Held → FileFault → Type 0)
    (next : List ℕ) (HoldsNext : Held → Type 0) (status : Status) : Type 0 where
  ends_first : EndsAtLoad IsFault file status → ReadsTwo IsFault file Holds IsNextFault next HoldsNext status
  ends_next : (held : Held) → Holds held → EndsAtLoad (IsNextFault held) next status → ReadsTwo IsFault file Holds IsNextFault next HoldsNext status
  reads_both : (held : Held) → Holds held → HoldsNext held → RefusesNone status → ReadsTwo IsFault file Holds IsNextFault next HoldsNext status

module _ {Held : Type 0} {IsFault : FileFault → Type 0} {file : List ℕ} {Holds : Held → Type 0} {IsNextFault : Held → FileFault → Type 0} {next : List ℕ}
    {HoldsNext : Held → Type 0} (name : List ℕ) (fault : FileFault) where
  -- what is refused is the first file that has a fault
  pub refused_of_two : ReadsTwo IsFault file Holds IsNextFault next HoldsNext (Refused (File name fault)) → IsLoadFault fault
      → IsRefusedOfTwo IsFault file Holds IsNextFault next name fault
  refused_of_two (ends_first ends) at_load = refused_first (refused_at_load name fault ends)
  refused_of_two (ends_next held holds ends) at_load = refused_next held holds (refused_at_load name fault ends)
  refused_of_two (reads_both held holds both none) at_load = absurd (none at_load)

  -- and where one has a fault it is refused for that, or memory ran out
  pub exact_of_two : (status : Status) → ReadsTwo IsFault file Holds IsNextFault next HoldsNext status
      → HasOneReason ((held : Held) × Holds held) IsFault → ((one other : Held) → Holds one → Holds other → one ≡ other)
      → ((held : Held) → Holds held → HasOneReason (HoldsNext held) (IsNextFault held))
      → IsRefusedOfTwo IsFault file Holds IsNextFault next name fault → IsFaultless status → IsRefusalOrMemory name fault status
  exact_of_two status (ends_first ends) first one_held second (refused_first refused) faultless =
      exact_at_load first status name fault ends refused faultless
  exact_of_two status (ends_first ends) first one_held second (refused_next held holds refused) faultless =
      memory_or first status name fault (held, holds) ends faultless
  exact_of_two status (ends_next held holds ends) first one_held second (refused_first refused) faultless =
      absurd (held_none first name fault (held, holds) refused)
  exact_of_two status (ends_next held holds ends) first one_held second (refused_next also same refused) faultless =
      let P : Held → Type 0 = λ h. IsRefusedFor (IsNextFault h) next name fault in
      exact_at_load (second held holds) status name fault ends (subst P (one_held also held same holds) refused) faultless
  exact_of_two status (reads_both held holds both none) first one_held second (refused_first refused) faultless =
      absurd (held_none first name fault (held, holds) refused)
  exact_of_two status (reads_both held holds both none) first one_held second (refused_next also same refused) faultless =
      let P : Held → Type 0 = λ h. IsRefusedFor (IsNextFault h) next name fault in
      absurd (held_none (second held holds) name fault both (subst P (one_held also held same holds) refused))
