use Rattle.std.proofs.Common.{ℕ, List, inl, inr, refl}
use Rattle.kb_word.specs.Presentations.{PresentationParts}
use Rattle.kb_proof.specs.Printable.{AreReadableNames}
use Rattle.kb_task.specs.Loads.{Files}
use Rattle.kb_task.specs.Presentations.{HoldsPresentation}
use Rattle.kb_task.proofs.DerivationLemmas.{fault_kept}
use Rattle.kb_task.proofs.NoReason.{automaton_unrefused, derivations_unrefused, group_unrefused, log_unrefused, markable_unrefused, one_markable_fault, one_subgroup_fault, presentation_unrefused, second_unrefused, shortlex_group, shortlex_unrefused, subgroup_unrefused}
use Rattle.kb_task.proofs.OneReason.{one_automaton_fault, one_derivations_fault, one_group_fault, one_presentation_fault, one_second_fault}
use Rattle.kb_task.proofs.StoredLogs.{names_apart, parts_present}
use Rattle.kb_task.proofs.laws.files_are_refused_for_one_reason.Goals as goal

pub returns : goal.returns
returns c =
    let no_fault = c.a_presentation_file_has_no_fault.ensures in
    let one_fault = c.a_presentation_file_has_one_fault.ensures in
    let written = c.a_presentation_that_is_read_can_be_written.ensures in
    let one_group = one_group_fault one_fault no_fault c.a_text_says_one_presentation.ensures in
    let of_logs = one_derivations_fault c.bytes_have_one_log_fault.ensures c.a_printed_log_has_no_fault.ensures in
    let readable : (files : Files) (file : List ℕ) (parts : PresentationParts) → HoldsPresentation files file parts → AreReadableNames parts.names =
    λ files file parts held. record {
      spelled = (written.printable held.bytes parts parts.equations held.says (parts_present held.says.text.fields parts held.says.holds)).names;
      free = λ within. (written.names held.bytes parts held.says).free _ (inr (within, inl refl));
    } in
    record {
      presentation = λ files name. record {
        one = one_presentation_fault one_fault files name;
        none = λ held fault. presentation_unrefused no_fault files name held.0 fault held.1;
      };
      shortlex = λ files name. record {
        one = λ one other a b. one_group files name one other (shortlex_group files name one a) (shortlex_group files name other b);
        none = λ held fault. shortlex_unrefused no_fault files name held.0 fault held.1.0 held.1.1;
      };
      group = λ files name. record {
        one = one_group files name;
        none = λ held fault. group_unrefused no_fault files name held.0 fault held.1;
      };
      markable = λ files name. record {
        one = one_markable_fault files name (one_group files name) (group_unrefused no_fault files name);
        none = λ held fault. markable_unrefused no_fault files name held.0 fault held.1;
      };
      subgroup = λ parts files name. record {
        one = one_subgroup_fault c.a_subgroup_file_has_one_fault.ensures parts files name;
        none = λ held fault. subgroup_unrefused c.a_subgroup_file_has_no_fault.ensures parts files name held.0 fault held.1;
      };
      automaton = λ kind files name. record {
        one = one_automaton_fault c.an_automaton_file_has_one_fault.ensures c.an_automaton_file_has_no_fault.ensures kind files name;
        none = λ held fault. automaton_unrefused c.an_automaton_file_has_no_fault.ensures kind files name held.0.0 held.0.1 fault held.1.0 held.1.1;
      };
      second = λ kind names alphabet files name. record {
        one = one_second_fault c.an_automaton_file_has_one_fault.ensures c.an_automaton_file_has_no_fault.ensures kind c.a_text_says_one_automaton.ensures names alphabet
            files name;
        none = λ held fault. second_unrefused c.an_automaton_file_has_no_fault.ensures kind files name names alphabet held.0 fault held.1;
      };
      log = λ files file name parts presents. record {
        one = λ one other a b.
            of_logs parts.names (readable files file parts presents) files name one other (fault_kept parts.names files name one a)
            (fault_kept parts.names files name other b);
        none = λ held fault. log_unrefused c.a_printed_log_has_no_fault.ensures files name parts.names held.0 fault held.1;
      };
      derivations = λ files file name parts presents. record {
        one = of_logs parts.names (readable files file parts presents) files name;
        none = λ held fault.
            derivations_unrefused c.a_printed_log_has_no_fault.ensures files name parts.names held.0 fault
            (names_apart parts.names presents.says.holds.names) held.1;
      };
    }
