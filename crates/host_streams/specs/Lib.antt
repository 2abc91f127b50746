pub mod ByteStreams
