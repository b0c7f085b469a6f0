-- What may be printed of tables: a text that the bytes of an input, or of files, have.
use Rattle.std.specs.Prelude.{ℕ, true, List, ◌≡◌}
use Rattle.risk_text.specs.RiskText.{risk_text}
use Rattle.check_text.specs.Table.{check_text}
use Rattle.verdict_sites.specs.Sites.{verdict_sites}
use Rattle.table_made.specs.Made.{made}
use Rattle.table_said.specs.MakeText.{make_text, is_answer}
use Rattle.table_text.specs.ShowText.{show_text}
use Rattle.verdict_text.specs.Verdict.{verdict_text, input_text}

pub data SaidOfTables (text : List ℕ) : Type 0 where
  of_input : (input : List ℕ) → text ≡ input_text input → SaidOfTables text
  of_check : (image : List ℕ) → text ≡ check_text image → SaidOfTables text
  of_verdict : (faulty : ℕ) (image : List ℕ) → text ≡ verdict_text faulty image → SaidOfTables text
  of_sites : (faulty : ℕ) (image : List ℕ) → text ≡ verdict_sites faulty image → SaidOfTables text
  of_risk : (image : List ℕ) → text ≡ risk_text image → SaidOfTables text
  of_make : (table : List ℕ) → is_answer (made table 4032) ≡ true → text ≡ make_text table → SaidOfTables text
  of_show : (image : List ℕ) → text ≡ show_text image → SaidOfTables text
