-- The sentences of document 01 say exactly which boards load: a board is accepted exactly if it is the board of some file. Assumes nothing.
use Prim.Native.Nat.{ℕ}
use mathlib.Core.Path.{◌≡◌}
use mathlib.Core.Logic.{◌↔◌}
use mathlib.Core.List.{List}
use lib.Dec.{T}
use lib.Pow.{are_bytes}
use Rattle.board.specs.Answers.{accepted}
use Rattle.board.specs.Board.{Board}
use Rattle.board.specs.Load.{load}
use Rattle.board.specs.Accepted.{Accepted}
use Rattle.board.proofs.Laws.Accepted.{loaded-accepted}
use Rattle.board.specs.Table.{file_of}
use Rattle.board.proofs.Laws.Table.{written_bytes}
use Rattle.board.proofs.Laws.Table.Written.{load_written}

-- some file loads to a board exactly if document 01's sentences hold of it
pub accepted_iff : (b : Board) → Accepted b ↔ ((file : List ℕ) × T (are_bytes file) × (load file ≡ accepted b))
accepted_iff b = (λ k. (file_of b, written_bytes k, load_written k), λ f. loaded-accepted f.0 f.1 b f.2)
