pub mod JoinedBlocks
