-- Books whose live lines are published.
use Rattle.std.proofs.Common.{◌≡◌, List, [], ◌∷◌, ◌++◌, sym, ◌∙◌, ap, ℕ}
use Rattle.kb_machine.specs.States.{State}
use Rattle.kb_machine.specs.Course.{Course, Takes}
use Rattle.kb_machine.specs.declared.event.Event.TheVariants.{Published}
use Rattle.kb_share.specs.Versions.{IsPublished}

-- the version that was published last has the live lines
pub published_is : (before after : Course) → Takes Published before after → IsPublished after.state
published_is before after takes =
    let versions = ap (λ (s : State). s.versions) takes.step in
    let live = ap (λ (s : State). s.live) takes.step in
    record {
      earlier = before.state.versions;
      is = versions ∙ ap (λ (l : List ℕ). before.state.versions ++ l ∷ []) (sym live);
    }
