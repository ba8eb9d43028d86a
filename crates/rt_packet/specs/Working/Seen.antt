-- What a contract sees of a decoder.
use Rattle.rt_packet.specs.Frame.{Payload, Frame, Outside, Within, Ended, Half}
use Rattle.rt_packet.specs.declared.decoder.Place.{Place}
use Rattle.rt_packet.specs.declared.decoder.Place.TheVariants as places

abbrev pub frame_of : Place → Payload → Frame
frame_of places.Outside payload = Outside payload.kept
frame_of places.Within payload = Within payload
frame_of places.Ended payload = Ended payload
frame_of (places.Half first) payload = Half payload first
