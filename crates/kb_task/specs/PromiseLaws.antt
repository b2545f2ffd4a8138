-- The laws of what a family of commands promises, from those of its commands.
use Rattle.std.proofs.Common.{◌≡◌, refl, subst}
use Rattle.kb_io.specs.Outside.{Outside}
use Rattle.kb_task.specs.Promises.{Promise, IsLawful, in_family}
use Rattle.kb_task.specs.Statuses.{IsConclusive, IsYes}
use Rattle.kb_task.specs.declared.status.Status.{Status}
use Rattle.kb_task.specs.declared.status.Status.TheVariants.{Yes}

-- a run that answered yes answered
pub yes-conclusive : (status : Status) → IsYes status → IsConclusive status
yes-conclusive Yes is_yes = tt
yes-conclusive _ is_yes = absurd is_yes

-- there is one yes
pub one_yes : (status other : Status) → IsYes status → IsYes other → status ≡ other
one_yes Yes Yes is_yes also = refl
one_yes Yes _ is_yes also = absurd also
one_yes _ _ is_yes also = absurd is_yes

-- What a family's command of a variant promises has the laws of that command, where what the family's commands of the
-- variant mean is what those commands mean.
pub in_family-lawful : {Task Family : Type 0} {promise : Task → Promise Task} {own : Promise Task}
    {family : Family → Promise Family} (variant : Task → Family)
    → ((task : Task) (before after : Outside) (status : Status)
    → (family (variant task)).means before after status → (promise task).means before after status)
    → IsLawful promise own → IsLawful family (in_family variant own)
in_family-lawful {family = family} variant means_its lawful = record {
  complete = lawful.complete;
  memory = lawful.memory;
  refused = lawful.refused;
  exact = lawful.exact;
  settled = lawful.settled;
  conclusive = lawful.conclusive;
  one_function = λ other_task before after other_before other_after status other means others is_yes also differs.
      let own = subst (λ t. (family t).means other_before other_after other) differs.1 others in
      lawful.one_function differs.0 before after other_before other_after status other means
      (means_its differs.0 other_before other_after other own) is_yes also differs.2;
}
