-- Every call's turn, each from its own file below: Done, Moves, Committing and Truncates are what they share, Creates is how a life
-- begins.
pub mod Done
pub mod Moves
pub mod Committing
pub mod Truncates
pub mod Creates
pub mod Reopens
pub mod Wiping
pub mod Marking
pub mod Appending
pub mod Rolling
pub mod Listing
pub mod Heading
pub mod Tailing
pub mod Resting
use Rattle.contracts.specs.Call.{Call, opens, wipes, marks, appends, roll_begins, roll_writes, roll_lists, head_starts, head_finishes, tail_starts}
use Rattle.contracts.specs.Call.{tail_finishes, closes, reads, counts}
use Rattle.life.proofs.Turns.Moves.{Turning}
use Rattle.life.proofs.Turns.Reopens.{open_turn}
use Rattle.life.proofs.Turns.Wiping.{wipe_turn, tail_finish_turn}
use Rattle.life.proofs.Turns.Marking.{mark_turn, close_turn}
use Rattle.life.proofs.Turns.Appending.{append_turn}
use Rattle.life.proofs.Turns.Rolling.{roll_begin_turn, roll_write_turn}
use Rattle.life.proofs.Turns.Listing.{roll_list_turn}
use Rattle.life.proofs.Turns.Heading.{head_start_turn}
use Rattle.life.proofs.Turns.Tailing.{tail_start_turn}
use Rattle.life.proofs.Turns.Resting.{head_finish_turn, read_turn, counts_turn}

pub turns : (c : Call) → Turning c
turns opens = λ g l b y r s z. open_turn r g
turns wipes = wipe_turn
turns marks = mark_turn
turns (appends p) = append_turn p
turns (roll_begins n) = roll_begin_turn n
turns (roll_writes p) = roll_write_turn p
turns roll_lists = roll_list_turn
turns (head_starts h) = head_start_turn h
turns head_finishes = head_finish_turn
turns (tail_starts t) = tail_start_turn t
turns tail_finishes = tail_finish_turn
turns closes = close_turn
turns (reads x) = read_turn x
turns counts = counts_turn
