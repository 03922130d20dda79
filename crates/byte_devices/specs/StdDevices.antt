-- The std reader or writer that a device wraps, whether a call failed, and whether a pipe is closed.
use Rattle.std.specs.Prelude.{Bool}
use Rattle.byte_devices.specs.declared.std_devices.FromReader.{FromReader}
use Rattle.byte_devices.specs.declared.std_devices.ToWriter.{ToWriter}

abbrev pub reader_of : {R : Type 0} → FromReader R → R
reader_of device = device.reader

-- Whether a read has failed.
abbrev pub read_failed : {R : Type 0} → FromReader R → Bool
read_failed device = device.has_failed

abbrev pub writer_of : {W : Type 0} → ToWriter W → W
writer_of device = device.writer

-- Whether a write has failed.
abbrev pub write_failed : {W : Type 0} → ToWriter W → Bool
write_failed device = device.has_failed

-- Whether a write has failed because the pipe is closed at its other end.
abbrev pub write_closed : {W : Type 0} → ToWriter W → Bool
write_closed device = device.is_closed
