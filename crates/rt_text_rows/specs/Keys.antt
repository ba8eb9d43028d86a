-- Rows of what stands above and below the rows of a picture: the axis of one of many tasks, and the key.
use Rattle.std.specs.Prelude.{ℕ, List, ◌++◌, codes}

-- of ticks 0, 1 and 2, which are 800 units wide: they begin at 0, 266 and 533, and end at 800; no label is at their left
abbrev pub axis_above : List ℕ
axis_above =
    codes "<g transform=\"translate(20,-18)\">\n"
    ++ codes "<path class=\"base\" d=\"M0,0v5\" fill=\"none\" stroke=\"#999\" stroke-width=\"1\"/><text class=\"tick\" x=\"0\" y=\"18\" text-anchor=\"middle\">0</text>\n"
    ++ codes "<path class=\"base\" d=\"M266,0v5\" fill=\"none\" stroke=\"#999\" stroke-width=\"1\"/><text class=\"tick\" x=\"266\" y=\"18\" text-anchor=\"middle\">1</text>\n"
    ++ codes "<path class=\"base\" d=\"M533,0v5\" fill=\"none\" stroke=\"#999\" stroke-width=\"1\"/><text class=\"tick\" x=\"533\" y=\"18\" text-anchor=\"middle\">2</text>\n"
    ++ codes "<path class=\"base\" d=\"M800,0v5\" fill=\"none\" stroke=\"#999\" stroke-width=\"1\"/><text class=\"tick\" x=\"800\" y=\"18\" text-anchor=\"middle\">3</text>\n"
    ++ codes "</g>\n"

-- Each shape and each colour is that of its mark, with what it means 8 or 10 units behind it; the second line is 20 units lower.
abbrev pub key_of_shapes : List ℕ
key_of_shapes =
    codes "<g transform=\"translate(0,22)\">\n"
    ++ codes "<g fill=\"none\" stroke=\"#222\" stroke-width=\"1.5\">\n"
    ++ codes "<path class=\"key-fresh\" d=\"M4,26v-12l-3,4m3,-4l3,4\" stroke=\"#1a7f37\"/>\n"
    ++ codes "<path class=\"key-kept\" d=\"M104,26v-3m0,-3v-6l-3,4m3,-4l3,4\" stroke=\"#9a6700\"/>\n"
    ++ codes "<path class=\"key-deadline\" d=\"M204,14v12l-3,-4m3,4l3,-4\" stroke=\"#57606a\"/>\n"
    ++ codes "<path class=\"key-postponed\" d=\"M294,24l-4,-6h8z\" fill=\"#bc6c00\" stroke=\"none\"/>\n"
    ++ codes "<path class=\"key-yield\" d=\"M424,16l4,4l-4,4l-4,-4z\"/>\n"
    ++ codes "<path class=\"key-sleep\" d=\"M494,17a3,3,0,1,0,1,0z\" stroke=\"#1f5fa8\"/>\n"
    ++ codes "<path class=\"key-end\" d=\"M4,37h3v6h-6v-6z\" fill=\"#222\"/>\n"
    ++ codes "<path class=\"key-fault\" d=\"M64,40l-4,-4l8,8l-4,-4l4,-4l-8,8\" stroke=\"#c0262d\" stroke-width=\"2.5\"/>\n"
    ++ codes "<path class=\"key-reserve\" d=\"M124,44h-4l4,-7l4,7z\" stroke=\"#6e40c9\"/>\n"
    ++ codes "<path class=\"key-refused\" d=\"M254,37h-4l4,7l4,-7z\" stroke=\"#6e40c9\"/>\n"
    ++ codes "</g>\n"
    ++ codes "<text x=\"12\" y=\"24\">fresh wake</text>\n"
    ++ codes "<text x=\"114\" y=\"24\">kept wake</text>\n"
    ++ codes "<text x=\"214\" y=\"24\">deadline</text>\n"
    ++ codes "<text x=\"304\" y=\"24\">budget used up</text>\n"
    ++ codes "<text x=\"434\" y=\"24\">yield</text>\n"
    ++ codes "<text x=\"504\" y=\"24\">sleep</text>\n"
    ++ codes "<text x=\"14\" y=\"44\">end</text>\n"
    ++ codes "<text x=\"74\" y=\"44\">fault</text>\n"
    ++ codes "<text x=\"134\" y=\"44\">reserve granted</text>\n"
    ++ codes "<text x=\"264\" y=\"44\">reserve refused</text>\n"
    ++ codes "<rect class=\"key-wait\" x=\"384\" y=\"38\" width=\"16\" height=\"4\" fill=\"#cbd5e1\"/><text x=\"406\" y=\"44\">waits</text>\n"
    ++ codes "<rect class=\"key-over\" x=\"454\" y=\"34\" width=\"16\" height=\"12\" fill=\"#f0a030\"/><text x=\"476\" y=\"44\">over the period (no promise)</text>\n"
    ++ codes "</g>\n"
