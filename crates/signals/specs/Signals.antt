-- Signals, what a unit makes of one, and the families of signals that a session's nodes give.
use Rattle.std.specs.Prelude.{◌≡◌, ℕ, zero, suc, ◌<◌, List, [], ◌∷◌, map, length, ℤ, pos, negsuc, ◌+ℤ◌, ◌-ℤ◌, ◌<ℤ◌, Some, None, Option}
use Rattle.frames.specs.Buses.{bus}
use Rattle.frames.specs.Samples.{silence}
use Rattle.frames.specs.declared.samples.Frame.{Frame}
use Rattle.frames.specs.declared.samples.Part.{Part}
use Rattle.racks.specs.Rack.{unit}
use Rattle.reels.specs.Tracks.{Tracks}
use Rattle.session.specs.Plan.{Plan, line, lines_into, node}
use Rattle.session.specs.declared.nodes.Source.{Source}
use Rattle.session.specs.declared.nodes.Source.TheVariants.{Track, Bus}
use Rattle.voices.specs.Meaning.{Meaning}

-- A signal has a value for every whole number, negative too. A unit hears signals of some kind X of value, of which
-- `quiet` is the silent one; what nodes give are signals of frames.
abbrev pub Signal : Type 0 → Type 0
Signal X = ℤ → X

-- Before b the signal is silent.
abbrev pub SilentBefore : {X : Type 0} → X → Signal X → ℤ → Type 0
SilentBefore quiet x b = (n : ℤ) → n <ℤ b → x n ≡ quiet

-- The k values of a signal from b on.
abbrev pub span : {X : Type 0} → Signal X → ℤ → ℕ → List X
span x b zero = []
span x b (suc k) = x b ∷ span x (b +ℤ pos 1) k

-- The last frame of a list; of the empty list, silence.
abbrev pub last_frame : List Frame → Frame
last_frame [] = silence
last_frame (f ∷ []) = f
last_frame (f ∷ (g ∷ fs)) = last_frame (g ∷ fs)

-- f is what a unit makes of a signal at n: the last frame of its voice over the signal's values from b to n, for every b
-- up to n before which the signal is silent.
abbrev pub Makes : {X : Type 0} → X → Meaning X → Signal X → ℤ → Frame → Type 0
Makes quiet m x n f = (b : ℤ) (k : ℕ) → n ≡ b +ℤ pos k → SilentBefore quiet x b → f ≡ last_frame (m.voice (span x b (suc k)))

-- A track's signal: its reel frames from 0, and silence before.
abbrev pub track_signal : Tracks → ℕ → Signal Frame
track_signal reel track (pos n) = reel.frame_of track n
track_signal reel track (negsuc n) = silence

-- What line i brings to its end at n, when it takes its start's frame `delay` frames before.
abbrev pub brought : Plan → (ℕ → ℕ) → (ℕ → Signal Frame) → ℤ → ℕ → Part
brought p delay gives n i = record { frame = gives (line p i).start (n -ℤ pos (delay i)); gain = (line p i).gain }

-- A node's input: a track's signal, or at each n what a bus makes of all that its lines bring.
abbrev pub input : Plan → Tracks → (ℕ → ℕ) → (ℕ → Signal Frame) → ℕ → Source → Signal Frame
input p reel delay gives v (Track track) n = track_signal reel track n
input p reel delay gives v Bus n = bus (map (brought p delay gives n) (lines_into p v))

-- f is what a node gives at n: its input there; or, where it has a unit, what the unit makes of the input `ahead` frames
-- later.
abbrev pub Gives : List (Meaning Frame) → (Meaning Frame → ℕ) → Option ℕ → Signal Frame → ℤ → Frame → Type 0
Gives rack ahead None x n f = f ≡ x n
Gives rack ahead (Some s) x n f = Makes silence (unit rack s) x (n +ℤ pos (ahead (unit rack s))) f

-- A family of signals, one for each node, that meets every node's rule: each is silent before some number, and each
-- frame is what the node gives. Line i takes its start's frame `delay i` frames before, and a unit gives what it makes of
-- its input `ahead` frames later.
pub record Runs (p : Plan) (rack : List (Meaning Frame)) (reel : Tracks) (delay : ℕ → ℕ) (ahead : Meaning Frame → ℕ) (gives : ℕ → Signal Frame) : Type 0 where
  pub begins : (v : ℕ) → v < length p.nodes → (b : ℤ) × SilentBefore silence (gives v) b
  pub follows : (v : ℕ) (n : ℤ) → v < length p.nodes → Gives rack ahead (node p v).unit (input p reel delay gives v (node p v).source) n (gives v n)

-- The ideal signals: no line is delayed, and each unit of lateness l gives at n what it makes of its input at n + l. The
-- mix is the ideal signal of node 0.
abbrev pub Ideal : Plan → List (Meaning Frame) → Tracks → (ℕ → Signal Frame) → Type 0
Ideal p rack reel gives = Runs p rack reel (λ _. 0) (λ m. m.late) gives

-- The signals under a patch: line i is delayed by `delay i`, and each unit gives what it makes of its input at once.
abbrev pub Under : Plan → List (Meaning Frame) → Tracks → (ℕ → ℕ) → (ℕ → Signal Frame) → Type 0
Under p rack reel delay gives = Runs p rack reel delay (λ _. 0) gives
