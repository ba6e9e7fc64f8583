mod Wrapper
