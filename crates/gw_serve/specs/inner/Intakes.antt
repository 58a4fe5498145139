-- What the reader took in.
use Rattle.std.specs.Prelude.{ℕ, Option, Some, None}
use Rattle.gw_serve.specs.declared.queue.Datagram.{Datagram}
use Rattle.gw_serve.specs.declared.reader.Intake.{Intake}
use Rattle.gw_serve.specs.declared.reader.Intake.TheVariants.{Numbered, Nothing, Over}

-- the datagram that was taken in, if one was
abbrev pub datagram_in : Intake → Option Datagram
datagram_in (Numbered datagram) = Some datagram
datagram_in Nothing = None
datagram_in Over = None

-- how many datagrams were taken in: one, or none
abbrev pub came_by : Intake → ℕ
came_by (Numbered datagram) = 1
came_by Nothing = 0
came_by Over = 0
