-- A step of the tokenizer.
use Rattle.std.specs.Prelude.{Result, Ok, Err}
use Rattle.base.specs.Bytes.{Bytes}
use Rattle.cursor.specs.Blank.{next_significant_char}
use Rattle.cursor.specs.Elim.{on-Significant}
use Rattle.cursor.specs.declared.Cursor.{Cursor}
use Rattle.token.specs.Read.{read_token}
use Rattle.token_kind.specs.Reason.{open_comment, lexer_error}
use Rattle.token_kind.specs.declared.LexerError.{LexerError}
use Rattle.token.specs.declared.Step.{Step}
use Rattle.token.specs.declared.Step.TheVariants.{End, Took}
use Rattle.base.specs.Option.{on_result, on_result2}

unfoldable pub step_of : Bytes → Cursor → Result Step LexerError
step_of s c =
    on_result (next_significant_char s c) (λ d. Err (lexer_error open_comment d)) λ x.
    on-Significant x (λ d. Ok (End d)) λ idx ch d.
    on_result2 (read_token s idx ch d) Err λ token e.
    Ok (Took token d.line d.character e)
