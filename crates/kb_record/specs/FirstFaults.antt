-- The first fault of a text, where faults are found by checks that come one before another.

-- a check finds the fault, and no check that comes before it finds any
pub record IsFirstFault {Check Error : Type 0} (Before : Check → Check → Type 0)
    (Finds : Check → Error → Type 0) (fault : Error) : Type 0 where
  pub check : Check
  pub found : Finds check fault
  pub first : (earlier : Check) (other : Error) → Before earlier check → ¬ Finds earlier other
