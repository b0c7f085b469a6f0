-- What may be printed of calls and of runs: a text that the bytes of an input, or of files, have.
use Rattle.std.specs.Prelude.{ℕ, List, ◌≡◌}
use Rattle.calls_listed.specs.Listed.{list_text}
use Rattle.calls_said.specs.Faults.{made_text}
use Rattle.missing_text.specs.MissingText.{missing_text}
use Rattle.same_text.specs.SameText.{same_text}
use Rattle.run_text.specs.Run.{run_text}

pub data SaidOfCalls (text : List ℕ) : Type 0 where
  of_run : (faulty : ℕ) (image list : List ℕ) → text ≡ run_text faulty image list → SaidOfCalls text
  of_missing : (faulty : ℕ) (image list : List ℕ) → text ≡ missing_text faulty image list → SaidOfCalls text
  of_made : (words : List ℕ) → text ≡ made_text words → SaidOfCalls text
  of_list : (list : List ℕ) → text ≡ list_text list → SaidOfCalls text
  of_same : (a b : List ℕ) → text ≡ same_text a b → SaidOfCalls text
