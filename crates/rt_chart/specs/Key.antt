-- The key below a picture: each kind of mark once, drawn as those of the picture are, in full size, the bars of waits and of what is over
-- the period, and what they mean.
use Rattle.std.specs.Prelude.{ℕ, ◌+◌, None, List, [], ◌∷◌, ◌++◌, codes, decimal}
use Rattle.std.specs.List.{flat_map}
use Rattle.rt_exec.specs.declared.outcome.Fault.TheVariants.{Illegal}
use Rattle.rt_drawing.specs.declared.mark.Event.{Event}
use Rattle.rt_drawing.specs.declared.mark.Event.TheVariants.{FreshWake, KeptWake, Deadline, Postponed, End, Yield, Sleep, Granted, Refused, Fault}
use Rattle.rt_chart.specs.declared.look.MarkStyle.{MarkStyle}
use Rattle.rt_chart.specs.declared.look.MarkStyle.TheVariants.{Shapes}
use Rattle.rt_chart.specs.Ink.{marks_begin, ink}
use Rattle.rt_chart.specs.MarkText.{Shape, whole_shape, line_shape, path_text}

-- an event, the class of its element in the key, and what is said of it; how far below the first line of the key its own is, and how
-- far from the left its path and its words begin; and how far below the top of its line its path does, where marks are shapes and where
-- they are lines
pub record KeyEntry : Type 0 where
  pub event : Event
  pub class : List ℕ
  pub words : List ℕ
  pub below : ℕ
  pub left : ℕ
  pub words_left : ℕ
  pub whole_top : ℕ
  pub line_top : ℕ

abbrev pub entry : Event → List ℕ → List ℕ → ℕ → ℕ → ℕ → ℕ → ℕ → KeyEntry
entry event class words below left words_left whole_top line_top = record {
  event = event;
  class = class;
  words = words;
  below = below;
  left = left;
  words_left = words_left;
  whole_top = whole_top;
  line_top = line_top;
}

abbrev pub entries : List KeyEntry
entries =
    entry (FreshWake None) (codes "key-fresh") (codes "fresh wake") 0 4 12 26 25
    ∷ entry KeptWake (codes "key-kept") (codes "kept wake") 0 104 114 26 25
    ∷ entry Deadline (codes "key-deadline") (codes "deadline") 0 204 214 14 14
    ∷ entry (Postponed 0 0) (codes "key-postponed") (codes "budget used up") 0 294 304 24 22
    ∷ entry Yield (codes "key-yield") (codes "yield") 0 424 434 16 18
    ∷ entry (Sleep 0) (codes "key-sleep") (codes "sleep") 0 494 504 17 18
    ∷ entry End (codes "key-end") (codes "end") 20 4 14 17 17
    ∷ entry (Fault Illegal) (codes "key-fault") (codes "fault") 20 64 74 20 20
    ∷ entry (Granted 0) (codes "key-reserve") (codes "reserve granted") 20 124 134 24 18
    ∷ entry Refused (codes "key-refused") (codes "reserve refused") 20 254 264 17 18
    ∷ []

-- its path goes on as that of a mark of the event
abbrev pub path_of : KeyEntry → ℕ → Shape → List ℕ
path_of e top s =
    codes "<path class=\"" ++ e.class ++ codes "\" d=\"M" ++ decimal e.left ++ path_text (e.below + top) s.path ++ codes "\"" ++ ink e.event ++ codes "/>\n"

abbrev pub entry_path : MarkStyle → KeyEntry → List ℕ
entry_path Shapes e = path_of e e.whole_top (whole_shape e.event)
entry_path _ e = path_of e e.line_top (line_shape e.event)

abbrev pub entry_words : KeyEntry → List ℕ
entry_words e =
    codes "<text x=\"" ++ decimal e.words_left ++ codes "\" y=\"" ++ decimal (24 + e.below) ++ codes "\">" ++ e.words ++ codes "</text>\n"

-- a wait's bar, and a bar of what is over the period
abbrev pub bars_text : List ℕ
bars_text =
    codes "<rect class=\"key-wait\" x=\"384\" y=\"38\" width=\"16\" height=\"4\" fill=\"#cbd5e1\"/><text x=\"406\" y=\"44\">waits</text>\n"
    ++ codes "<rect class=\"key-over\" x=\"454\" y=\"34\" width=\"16\" height=\"12\" fill=\"#f0a030\"/><text x=\"476\" y=\"44\">over the period (no promise)</text>\n"

unfoldable pub key_text : MarkStyle → List ℕ
key_text style =
    codes "<g transform=\"translate(0,22)\">\n" ++ marks_begin ++ flat_map (entry_path style) entries ++ codes "</g>\n"
    ++ flat_map entry_words entries ++ bars_text ++ codes "</g>\n"
