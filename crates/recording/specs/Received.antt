-- A run of calls: state and buffer are handed back as left, each call gives its answer, and the packets that come out go one after another.
use Rattle.std.specs.Prelude.{ℕ, List, [], ◌∷◌, ◌++◌, Bool, cond, length, take, drop, replicate, eqb}
use Rattle.frames.specs.declared.Frames.{Frames}
use Rattle.frames.specs.declared.Framed.{Framed}
use Rattle.frames.specs.Frames.{fresh_frames, framed, buffer_after, out_after, taken_kind, repeat_kind}
use Rattle.recording.specs.Sent.{all, Sent, Call}

-- what is handed from one call to the next
pub record Receiver : Type 0 where
  pub state : Frames
  pub buffer : List ℕ

-- a fresh start, with any buffer
abbrev pub fresh : List ℕ → Receiver
fresh buffer = record { state = fresh_frames; buffer = buffer }

-- ---- one call: its answer, the octets that come out, and what is handed back
unfoldable pub answer_to : Receiver → Call → Framed
answer_to r c = framed r.state c.count c.pointer c.field r.buffer (length c.out)

unfoldable pub output_of : Receiver → Call → List ℕ
output_of r c = take (answer_to r c).octets (out_after r.state c.count c.pointer c.field r.buffer c.out)

unfoldable pub handed_back : Receiver → Call → Receiver
handed_back r c =
    record {
      state = (answer_to r c).state;
      buffer = buffer_after r.state c.count c.pointer c.field r.buffer (length c.out);
    }

-- ---- a run of calls
unfoldable pub answers : Receiver → List Call → List Framed
answers r [] = []
answers r (c ∷ calls) = answer_to r c ∷ answers (handed_back r c) calls

unfoldable pub outputs : Receiver → List Call → List ℕ
outputs r [] = []
outputs r (c ∷ calls) = output_of r c ++ outputs (handed_back r c) calls

-- no received frame is refused
abbrev pub none_refused : List Framed → Bool
none_refused told = all (λ a. eqb a.refusal 0) told

-- ---- each frame that is received is taken, and is a repeat each further time that it comes
abbrev pub kinds_for : List (List ℕ) → List ℕ
kinds_for [] = []
kinds_for (out ∷ more) = taken_kind ∷ replicate (length more) repeat_kind

unfoldable pub kinds_of : List Sent → List ℕ
kinds_of [] = []
kinds_of (f ∷ frames) = kinds_for f.lent ++ kinds_of frames

-- the packets of which every octet came: they lie wholly in received frames
unfoldable pub wholly : List (List ℕ) → List Bool → List (List ℕ)
wholly [] came = []
wholly (p ∷ ps) came =
    let more = wholly ps (drop (length p) came) in
    cond (all (λ b. b) (take (length p) came)) (p ∷ more) more
